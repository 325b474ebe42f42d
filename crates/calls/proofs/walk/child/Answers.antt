-- child: the slot with this name, or none.
use Rattle.calls.proofs.Lowest.{found-slot}
use Rattle.calls.proofs.Steps.{step-found}
use Rattle.calls.specs.Walk.{reached, walked}
use Rattle.tree.specs.Fields.{Slot}
use mathlib.Core.Option.{none, some}
use mathlib.Core.Path.{◌∙◌, ap, sym}
use Rattle.calls.proofs.walk.child.Goals as goal

pub returns-in_default : goal.returns-in_default
returns-in_default c = ap walked (step-found _ _ c.args.directory.there.kind _ none c.in_default.ensures)

pub slot_at-requires : goal.slot_at-requires
slot_at-requires c = (found-slot _ _ _ (sym c.in-Some.ensures)).0

pub returns : goal.returns
returns c = ap (λ (x : Slot). reached x.1) c.slot_at.ensures ∙ ap walked (step-found _ _ c.args.directory.there.kind _ (some _) c.in-Some.ensures)

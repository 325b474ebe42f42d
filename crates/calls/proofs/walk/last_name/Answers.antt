-- last_name: the component before the path's end, or none.
use Prim.Native.Nat.{ℕ}
use lib.ListN.{get_or}
use mathlib.Core.List.{[]}
use mathlib.Core.Path.{◌∙◌, ap}
use Rattle.path.specs.Path.{components}
use Rattle.calls.proofs.Steps.{last_some}
use Rattle.calls.proofs.walk.last_name.Goals as goal

pub returns : goal.returns
returns c = last_some _ c.count.ensures (c.component.ensures ∙ ap (λ (i : ℕ). get_or (components c.args.path.now) i []) c.saturating_sub.ensures)

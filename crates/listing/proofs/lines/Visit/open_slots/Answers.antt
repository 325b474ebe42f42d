-- open_slots: by the levels and the kind.
use Rattle.listing.proofs.Held.{count_all, count-file, count_none}
use Rattle.calls.specs.Reading.{block_in}
use Rattle.tree.specs.Fields.{total}
use mathlib.Core.List.{List}
use mathlib.Core.Path.{◌∙◌, ap₂}
use native.Mathlib.Omega.{arith}
use Prim.Native.Nat.{ℕ}
use Rattle.listing.proofs.lines.Visit.open_slots.Goals as goal

pub returns-then-node-ge16 : goal.returns-then-node-ge16
returns-then-node-ge16 c = count_none _ _ (omega arith)

pub returns-in_default : goal.returns-in_default
returns-in_default c = count-file _ _ c.in_default.ensures

pub returns : goal.returns
returns c =
    let k = c.in-Some.ensures in
    c.slot_count.ensures ∙ ap₂ (λ (s : List ℕ) (r : ℕ). total (block_in s r)) k.image k.at ∙ count_all _ _ (λ z. omega (arith, z)) k.kind

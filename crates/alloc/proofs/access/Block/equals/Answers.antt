-- equals: `==` of the data.
use Rattle.storage.specs.Bytes.{same}
use Rattle.storage.proofs.Compare.{pointwise-same}
use mathlib.Core.Path.{ap, ◌∙◌}
use mathlib.Core.List.{List}
use Prim.Native.Nat.{ℕ}
use Rattle.alloc.proofs.access.Block.equals.Goals as goal

pub returns : goal.returns
returns c = c.eq.ensures ∙ pointwise-same _ _ ∙ ap (λ (s : List ℕ). same s c.args.bytes.now) c.body.ensures

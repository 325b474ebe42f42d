-- length_allowed: the tests are the definition's.
use Rattle.alloc.specs.Tiling.{length_allowed}
use mathlib.Core.Path.{refl}
use Rattle.alloc.proofs.tiling.length_allowed.Goals as goal

pub returns : goal.returns
unfolding length_allowed
returns c = refl

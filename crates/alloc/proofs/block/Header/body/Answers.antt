-- body: the data as a part of the image.
use Rattle.alloc.proofs.Held.{body-read}
use native.Mathlib.Omega.{arith}
use Rattle.std.proofs.lemmas.Grind.{common_steps}
use mathlib.Core.Path.{refl}
use Rattle.alloc.proofs.block.Header.body.Goals as goal

pub returns : goal.returns
returns c = body-read _ _ c.data_start-from.ensures c.size-size.ensures (grind (arith, common_steps)) refl

-- is: by the magics.
use Rattle.std.proofs.Common.{eqb}
use mathlib.Core.Path.{ap₂}
use Rattle.alloc.proofs.block.Header.is.Goals as goal

pub returns : goal.returns
returns c = ap₂ eqb c.magic.ensures c.magic-2.ensures

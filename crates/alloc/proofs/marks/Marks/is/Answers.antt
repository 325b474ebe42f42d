-- is: by the kinds.
use Rattle.std.proofs.Common.{arith}
use Rattle.std.proofs.lemmas.Grind.{common_steps}
use Rattle.alloc.proofs.marks.Marks.is.Goals as goal

pub returns : goal.returns
returns c = grind (arith, common_steps)

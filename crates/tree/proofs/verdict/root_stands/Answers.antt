-- root_stands: a directory, and its parent.
use Rattle.std.proofs.Common.{arith}
use Rattle.std.proofs.lemmas.Grind.{common_steps}
use Rattle.tree.proofs.Tests.{root-other, root-directory}
use Rattle.tree.proofs.verdict.root_stands.Goals as goal

pub returns : goal.returns
returns c = grind (arith, common_steps, root-other, root-directory)

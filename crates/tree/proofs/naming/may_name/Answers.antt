-- may_name: by the kind of what is named.
use Rattle.std.proofs.Common.{arith}
use Rattle.std.proofs.lemmas.Grind.{common_steps}
use Rattle.tree.proofs.Noting.{right_other, right_parent}
use Rattle.tree.proofs.naming.may_name.Goals as goal

pub returns : goal.returns
returns c = grind (arith, common_steps, right_other, right_parent)

-- judge: a length past all that are allowed breaks rule 1; else by the marks that are enough.
use Rattle.tree.proofs.Whole.{judged_over}
use mathlib.Core.Path.{◌∙◌}
use native.Mathlib.Omega.{arith}
use Rattle.tree.proofs.verdict.judge.Goals as goal

pub returns-in_default : goal.returns-in_default
returns-in_default c = c.kept.ensures ∙ judged_over c.args.image.now (omega arith)

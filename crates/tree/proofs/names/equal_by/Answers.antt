-- equal_by: names whose bits differ are not equal.
use Rattle.tree.proofs.Printing.{unlike_names}
use borrow.Author.Tests.{ne_eqb}
use mathlib.Core.Path.{sym, ◌∙◌}
use Rattle.tree.proofs.names.equal_by.Goals as goal

pub returns-else-prints-j : goal.returns-else-prints-j
returns-else-prints-j c = ne_eqb _ _ c.if-prints-j.false ∙ sym (unlike_names c.args.prints.printed _ _ c.requires.0 c.requires.1 c.if-prints-j.false)

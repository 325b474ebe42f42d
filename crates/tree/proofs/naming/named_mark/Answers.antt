-- named_mark: the first naming, and rightly, or any other.
use Rattle.tree.specs.Marks.{named_mark}
use mathlib.Core.Path.{sym}
use Rattle.tree.proofs.naming.named_mark.Goals as goal

pub returns-then-right-mark : goal.returns-then-right-mark
unfolding named_mark
returns-then-right-mark c = sym (rw c.if-right-mark.true)

pub returns : goal.returns
unfolding named_mark
returns c = sym (rw c.if-right-mark.false)

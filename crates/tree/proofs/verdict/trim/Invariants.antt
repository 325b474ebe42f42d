-- trim: the marks passed are trimmed.
use Rattle.std.proofs.Common.{◌≡◌, ◌++◌, take, drop}
use Rattle.tree.specs.Marks.{trimmed}
use Rattle.tree.proofs.verdict.trim.Given as goal

abbrev pub invariant-loop-mark : goal.invariant-loop-mark
invariant-loop-mark l = l.marks ≡ trimmed (take l.mark-index l.initial.marks) ++ drop l.mark-index l.initial.marks

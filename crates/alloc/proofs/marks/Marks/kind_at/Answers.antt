-- kind_at: past the image there is nothing; else by the mark.
use Rattle.alloc.proofs.Marking.{marked_none, marked-kind}
use mathlib.Core.Path.{◌∙◌}
use native.Mathlib.Omega.{arith}
use Rattle.alloc.proofs.marks.Marks.kind_at.Goals as goal

pub returns-then-units_of-n : goal.returns-then-units_of-n
returns-then-units_of-n c = marked_none c.args.self.marked _ (omega arith)

pub returns : goal.returns
returns c = c.kind_of.ensures ∙ marked-kind c.args.self.marked _ (omega arith)

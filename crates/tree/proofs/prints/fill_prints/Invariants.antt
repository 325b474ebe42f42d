-- fill_prints: slot after slot.
use Rattle.tree.proofs.Printing.{Filling}
use Rattle.tree.proofs.prints.fill_prints.Given as goal

abbrev pub invariant-loop-i : goal.invariant-loop-i
invariant-loop-i l = Filling l.d.image.now l.d.at.0 l.initial.prints l.prints l.i

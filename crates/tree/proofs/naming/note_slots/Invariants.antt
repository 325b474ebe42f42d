-- note_slots: slot after slot.
use Rattle.tree.specs.Directory.{block_in}
use Rattle.tree.proofs.Noting.{Notes}
use Rattle.tree.proofs.naming.note_slots.Given as goal

abbrev pub invariant-loop-i : goal.invariant-loop-i
invariant-loop-i l = Notes l.d.image.now l.d.at.0 (block_in l.d) l.initial.marks l.marks l.i

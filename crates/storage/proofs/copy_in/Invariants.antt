-- copy_in: i bytes are stored.
use Rattle.storage.proofs.Runs.{Stored}
use Rattle.storage.proofs.copy_in.Given as goal

abbrev pub invariant-loop-i : goal.invariant-loop-i
invariant-loop-i l = Stored l.initial.s l.o.0 l.bytes l.s l.i

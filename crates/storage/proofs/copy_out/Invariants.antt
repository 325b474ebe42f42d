-- copy_out: i bytes are stored.
use Rattle.storage.proofs.Runs.{Stored}
use Rattle.storage.proofs.copy_out.Given as goal

abbrev pub invariant-loop-i : goal.invariant-loop-i
invariant-loop-i l = Stored l.initial.buffer 0 l.part l.buffer l.i

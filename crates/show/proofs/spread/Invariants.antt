-- The words passed are stored.
use Rattle.std.proofs.Common.{◌/◌, length, take}
use Rattle.show.proofs.Spreading.{Spreading}
use Rattle.show.proofs.spread.Given as goal

abbrev pub invariant-loop-i : goal.invariant-loop-i
invariant-loop-i l = Spreading (take (length l.initial.image / 8) l.words) l.initial.image l.image (length l.yielded)

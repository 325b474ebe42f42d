-- check: rule 1 holds so far, and the blocks passed are marked.
use Prim.Native.Nat.{◌-◌}
use Rattle.alloc.proofs.Marking.{MarksSoFar}
use lib.ListN.{length}
use Rattle.alloc.proofs.marks.check.Given as goal

abbrev pub invariant-loop-at : goal.invariant-loop-at
invariant-loop-at l = MarksSoFar l.image l.initial.marks l.marks l.r.0 l.at

abbrev pub decreases-loop-at : goal.decreases-loop-at
decreases-loop-at l = length l.image - l.at

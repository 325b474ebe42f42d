use Rattle.std.proofs.Common.{◌*◌, ◌+◌}
use Rattle.listing.proofs.Storing.{Storing}
use Rattle.listing.specs.Nodes.{levels, lines_in}
use Rattle.listing.proofs.walk.+object_slots.Given as goal

abbrev pub decreases-object : goal.decreases-object
decreases-object l = 2 * levels l.visit.node.depth + 1

abbrev pub decreases-slots : goal.decreases-slots
decreases-slots l = 2 * levels l.visit.node.depth

abbrev pub invariant-slots-loop-j : goal.invariant-slots-loop-j
invariant-slots-loop-j l = Storing l.i (lines_in l.visit.image.now l.visit.node 0) (lines_in l.visit.image.now l.visit.node l.j) l.initial.numbers l.at l.numbers

use Rattle.std.proofs.Common.{◌*◌, ◌+◌}
use Rattle.listing.proofs.Seeking.{Passing}
use Rattle.listing.specs.Nodes.{levels}
use Rattle.listing.proofs.seek.+object_slots.Given as goal

abbrev pub decreases-object : goal.decreases-object
decreases-object l = 2 * levels l.visit.node.depth + 1

abbrev pub decreases-slots : goal.decreases-slots
decreases-slots l = 2 * levels l.visit.node.depth

abbrev pub invariant-slots-loop-i : goal.invariant-slots-loop-i
invariant-slots-loop-i l = Passing l.visit.image.now l.visit.node l.initial.cursor l.cursor l.i

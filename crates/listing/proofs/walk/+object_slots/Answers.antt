-- object and slots: slots have twice their object's levels as measure, an object one more; the loop stores the lines of a slot in each turn.
use Rattle.listing.proofs.Held.{below, child-lines, child-room, empty-lines, held_none}
use Rattle.listing.proofs.Storing.{object-behind, storing_as, storing_end, storing_on, stores_file, stores_object}
use mathlib.Core.Path.{◌∙◌, sym}
use native.Mathlib.Omega.{arith}
use Rattle.listing.proofs.walk.+object_slots.Goals as goal

pub object-slots-requires : goal.object-slots-requires
object-slots-requires t c = (omega (arith, c.decreases), object-behind _ _ _ c.requires)

pub object-returns : goal.object-returns
object-returns t c = stores_object _ _ c.own.ensures c.slots.ensures

pub slots-loop-j-preserved-in_default : goal.slots-loop-j-preserved-in_default
slots-loop-j-preserved-in_default t c =
    storing_as c.loop-j.invariant (empty-lines c.args.visit.image.now c.args.visit.node (omega (arith, c.open_slots-j-end.ensures)) c.in_default.ensures)

pub slots-loop-j-preserved-then-not-is_directory : goal.slots-loop-j-preserved-then-not-is_directory
slots-loop-j-preserved-then-not-is_directory t c =
    storing_on c.loop-j.invariant _ _ (child-lines c.in-Some.ensures (omega (arith, c.open_slots-j-end.ensures)))
    (stores_file _ _ c.own.ensures (sym c.is_directory.ensures ∙ c.if-not-is_directory.true))

pub slots-object-at-requires : goal.slots-object-at-requires
slots-object-at-requires t c =
    let y = c.in-Some.ensures in (
      omega (arith, c.decreases, below y (omega (arith, c.open_slots-j-end.ensures))),
      child-room y (omega (arith, c.open_slots-j-end.ensures)) c.loop-j.at 4294967296 (omega (arith, c.loop-j.invariant.left, c.requires)),
    )

pub slots-loop-j-preserved : goal.slots-loop-j-preserved
slots-loop-j-preserved t c = storing_on c.loop-j.invariant _ _ (child-lines c.in-Some.ensures (omega (arith, c.open_slots-j-end.ensures))) c.object-at.ensures

pub slots-returns : goal.slots-returns
slots-returns t c = storing_end c.loop-j.invariant (held_none _ _ _ _ _ (omega (arith, c.open_slots-j-end.ensures)))

-- object and slots: slots have twice their object's levels as measure, an object one more; the loop passes a slot in each turn.
use Rattle.listing.proofs.Held.{deeper, slot-low, slot_few}
use Rattle.listing.proofs.Seeking.{goes_own, passing_empty, passing_end, passing_found, passing_on}
use mathlib.Core.Path.{◌∙◌, sym}
use native.Mathlib.Omega.{arith}
use Rattle.listing.proofs.seek.+object_slots.Goals as goal
use Rattle.listing.proofs.seek.+object_slots.Goals.{slots-in-Some+else-is_some, slots-in_default}

pub object-returns-in-None : goal.object-returns-in-None
object-returns-in-None t c = goes_own _ _ _ _ _ _ c.in-None.is c.place.ensures c.line.ensures

pub slots-object-line-requires : goal.slots-object-line-requires
slots-object-line-requires t c =
    omega (arith, deeper c.in-Some.ensures, slot-low c.args.visit.bytes c.args.visit.node c.args.visit.there c.loop-i.i (omega (arith, c.open_slots-i-end.ensures)))

pub slots-returns-then-is_some : goal.slots-returns-then-is_some
slots-returns-then-is_some t c =
    passing_found c.loop-i.invariant (omega (arith, c.open_slots-i-end.ensures)) _ c.in-Some.ensures c.object-line.ensures (sym c.is_some.ensures ∙ c.if-is_some.true)

pub slots-overflow_add-i : goal.slots-overflow_add-i
slots-overflow_add-i t c = omega (arith, slot_few c.args.visit.bytes c.args.visit.node c.args.visit.there c.loop-i.i (omega (arith, c.open_slots-i-end.ensures)))

pub slots-overflow_cast-i : goal.slots-overflow_cast-i
slots-overflow_cast-i t c = omega (arith, slot_few c.args.visit.bytes c.args.visit.node c.args.visit.there c.loop-i.i (omega (arith, c.open_slots-i-end.ensures)))

pub slots-loop-i-preserved : goal.slots-loop-i-preserved
slots-loop-i-preserved t c =
    let w = c.loop-i.invariant in
    elim c.match-child.branch [
      | slots-in-Some+else-is_some v ↦
          passing_on w c.place.ensures (omega (arith, c.open_slots-i-end.ensures)) v.cursor-is v.in-Some.ensures _ v.object-line.ensures (sym v.is_some.ensures ∙ v.if-is_some.false)
      | slots-in_default v ↦ passing_empty w c.place.ensures (omega (arith, c.open_slots-i-end.ensures)) v.cursor-is v.in_default.ensures
    ]

pub slots-returns : goal.slots-returns
slots-returns t c = passing_end c.loop-i.invariant (omega (arith, c.open_slots-i-end.ensures))

-- carve: the whole of the gap, or its front.
use Rattle.alloc.proofs.Stores.{carve-room, carve_whole, carve_part}
use native.Mathlib.Omega.{arith}
use Rattle.alloc.proofs.place.carve.Goals as goal

pub write_ref-requires : goal.write_ref-requires
write_ref-requires c = omega (arith, carve-room c.requires)

pub write_blank-requires : goal.write_blank-requires
write_blank-requires c = omega (arith, carve-room c.requires)

pub past-rest-requires : goal.past-rest-requires
past-rest-requires c = omega (arith, carve-room c.requires, c.units_for-need.ensures)

pub write_ref-requires-else-units-need : goal.write_ref-requires-else-units-need
write_ref-requires-else-units-need c = omega (arith, carve-room c.requires)

pub write_blank-requires-else-units-need : goal.write_blank-requires-else-units-need
write_blank-requires-else-units-need c = omega (arith, carve-room c.requires)

pub write_free-requires : goal.write_free-requires
write_free-requires c = omega (
  arith,
  carve-room c.requires,
  c.units_for-need.ensures,
  c.past-rest.ensures,
)

pub returns-then-units-need : goal.returns-then-units-need
returns-then-units-need c = carve_whole c.requires
    (omega (arith, c.units_for-need.ensures))
    c.write_ref.ensures c.write_blank.ensures

pub returns-else-units-need : goal.returns-else-units-need
returns-else-units-need c =
    carve_part c.requires _ _
    c.units_for-need.ensures
    (omega (
      arith,
      carve-room c.requires,
      c.units_for-need.ensures,
      c.if-units-need.false,
    ))
    c.past-rest.ensures
    c.write_ref-else-units-need.ensures c.write_blank-else-units-need.ensures
    c.write_free.ensures

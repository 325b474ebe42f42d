-- empty: zeros, the superblock and a free block's header are the empty volume's image.
use Rattle.alloc.proofs.Creating.{empty-done}
use Rattle.alloc.proofs.Cuts.{length-parts}
use native.Mathlib.Omega.{arith}
use Rattle.alloc.proofs.create.empty.Goals as goal

pub write_u32-requires : goal.write_u32-requires
write_u32-requires c =
    omega (arith, length-parts _ c.requires, c.start-front.ensures)

pub write_u32-requires-2 : goal.write_u32-requires-2
write_u32-requires-2 c =
    omega (
      arith,
      length-parts _ c.requires,
      c.start-front.ensures,
      c.plus.ensures,
    )

pub write_ref-requires : goal.write_ref-requires
write_ref-requires c =
    omega (arith, length-parts _ c.requires)

pub write_ref-requires-2 : goal.write_ref-requires-2
write_ref-requires-2 c =
    omega (
      arith,
      length-parts _
          c.requires,
    )

pub between-requires : goal.between-requires
between-requires c =
    omega (
      arith,
      length-parts _
          c.requires,
      c.past-end.ensures,
      c.units_of.ensures,
    )

pub write_free-requires : goal.write_free-requires
write_free-requires c =
    omega (
      arith,
      length-parts _
          c.requires,
      c.past-end.ensures,
      c.units_of.ensures,
      c.between.ensures,
    )

pub returns : goal.returns
returns c =
    empty-done c.args.image.now c.args.root.0 c.requires c.start-front.ensures c.zero.ensures (rw c.magic.ensures at c.write_u32.ensures)
    (omega (
      arith,
      c.plus.ensures,
      c.start-front.ensures,
    )) c.write_u32-2.ensures c.data_start.ensures c.write_ref.ensures c.data_start-2.ensures c.write_ref-2.ensures
    (omega (
      arith,
      c.between.ensures,
      c.past-end.ensures,
      c.units_of.ensures,
    )) c.write_free.ensures

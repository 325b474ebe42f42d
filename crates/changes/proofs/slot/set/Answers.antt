-- set: two stores, one behind the other.
use Prim.Native.Nat.{◌*◌, ◌+◌}
use Rattle.alloc.specs.Room.{after_update, with_extents}
use Rattle.changes.proofs.Storing.{open_held, open_image, store, store_at, store_both}
use Rattle.storage.proofs.Numbers.{length-be64}
use Rattle.storage.specs.Bytes.{be64}
use native.Mathlib.Omega.{arith}
use Rattle.changes.proofs.slot.set.Goals as goal

pub write_ref-requires-2 : goal.write_ref-requires-2
write_ref-requires-2 c =
    let k = store_at (store (open_held c.requires.0) _ _ (omega (arith, c.requires.1, length-be64 c.args.slot.name.0)) c.write_ref.ensures) (16 + 16 * c.args.i) 8 (omega (arith, c.requires.1)) in
    (k.0, omega (arith, k.1))

pub returns : goal.returns
unfolding after_update with_extents
returns c =
    open_image (store_both (open_held c.requires.0) (8 + 16 * c.args.i) (be64 c.args.slot.name.0) (be64 c.args.slot.object.0) (omega (arith, length-be64 c.args.slot.name.0))
    (omega (arith, c.requires.1, length-be64 c.args.slot.object.0)) c.write_ref.ensures c.write_ref-2.ensures)

use Prim.Native.Nat.{◌<◌}
use Rattle.tree.specs.Directory.{block_in}
use Rattle.tree.proofs.Noting.{notes_on, notes_all, slot_here}
use Rattle.tree.proofs.Rows.{directory-is}
use Rattle.tree.specs.Fields.{total}
use mathlib.Core.Path.{refl}
use native.Mathlib.Omega.{arith}
use Rattle.tree.proofs.naming.note_slots.Goals as goal

pub loop-i-preserved : goal.loop-i-preserved
loop-i-preserved c =
    let h : c.loop-i.i < total (block_in c.args.d) = omega (arith, c.slot_count-i-end.ensures) in
    notes_on c.loop-i.invariant h
    (slot_here c.loop-i.invariant.annotated.marked c.args.d.sound h refl) _
    c.note_slot.ensures

pub returns : goal.returns
returns c = notes_all c.loop-i.invariant (directory-is c.args.d.sound.directory) (omega (arith, c.slot_count-i-end.ensures))

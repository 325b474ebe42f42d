-- clear: the slot, the name, the object.
use Rattle.std.proofs.Common.{rules}
use Rattle.changes.proofs.Removing.{clear_done, clear_name, clear_object, clear_slot}
use Rattle.changes.proofs.remove.clear.Goals as goal

pub set-requires : goal.set-requires
set-requires c = clear_slot (search rules) c.requires

pub block-requires : goal.block-requires
block-requires c = clear_name (search rules) c.requires c.slot_at-slot.ensures c.set.ensures

pub block-requires-2 : goal.block-requires-2
block-requires-2 c = clear_object (search rules) c.requires c.slot_at-slot.ensures c.set.ensures c.block.ensures

pub returns : goal.returns
returns c = clear_done (search rules) c.requires c.slot_at-slot.ensures c.set.ensures c.block.ensures c.block-2.ensures

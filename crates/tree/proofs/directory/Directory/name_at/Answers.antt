-- name_at: an empty slot, or its name.
use Rattle.tree.proofs.Tests.{slot_free, name_stands, slot_named}
use Rattle.tree.proofs.directory.Directory.name_at.Goals as goal

pub returns-then-not-is_taken : goal.returns-then-not-is_taken
returns-then-not-is_taken c = slot_free c.args.self.sound c.requires c.slot_at-slot.ensures c.is_taken.ensures c.if-not-is_taken.true

pub invariant_of-result : goal.invariant_of-result
invariant_of-result c = record { standing = name_stands c.args.self.sound c.requires c.slot_at-slot.ensures c.is_taken.ensures c.if-not-is_taken.false }

pub returns : goal.returns
returns c = slot_named c.args.self.sound c.requires c.slot_at-slot.ensures c.is_taken.ensures c.if-not-is_taken.false

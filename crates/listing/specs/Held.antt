-- The lines of what an object holds, from one of its slots on.
use Rattle.std.specs.Prelude.{◌+◌, ◌-◌, suc, zero, ℕ, cond, List}
use Rattle.alloc.specs.Block.{Block}
use Rattle.alloc.specs.Volume.{Objects, block_at}
use Rattle.tree.specs.Fields.{is_dir, slots_from, total}
use Rattle.history.specs.Listing.{Line, object_lines, slot_lines}

-- how many slots are gone through where so many levels are below: a directory's, and none of a file
unfoldable pub slot_count : ℕ → Block → ℕ
slot_count zero b = 0
slot_count (suc k) b = cond (is_dir b) (total b) 0

-- the lines of what the object at ref r and depth d holds, from slot j on
abbrev pub held_lines : ℕ → Objects → ℕ → ℕ → ℕ → List Line
held_lines levels os r d j =
    slot_lines (λ m o. object_lines (levels - 1) os o r m (d + 1)) (slots_from (block_at os r) j (slot_count levels (block_at os r) - j))

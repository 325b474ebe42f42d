-- Where make answers 8: there is no room for a name and an object.
use Rattle.std.specs.Prelude.{ℕ, List, ◌≡◌}
use Rattle.std.proofs.Math.Option.{none, some}
use Rattle.alloc.specs.Block.{units}
use Rattle.alloc.specs.Stretch.{TwoStretches}
use Rattle.alloc.specs.Volume.{objects, volume_of}
use Rattle.calls.specs.declared.refusal.Reason.TheVariants.{Exists}
use Rattle.calls.specs.Reading.{block_in}
use Rattle.calls.specs.Walk.{empty_slot, last_name, reached, slot_named, start_above}
use Rattle.changes.specs.Changing.{New, allowed, new_block, new_name}

-- the walk reaches a directory, the name is not in it, a slot is empty, and no two disjoint stretches of free units have the lengths of the
-- name and of the object
pub record NoRoomFor (s path : List ℕ) (new : New) : Type 0 where
  pub directory : ℕ
  pub slot : ℕ
  pub reached_it : start_above s path (allowed new) Exists ≡ reached directory
  pub absent : slot_named (objects (volume_of s)) (block_in s directory) (last_name path) ≡ none
  pub vacant : empty_slot (block_in s directory) ≡ some slot
  pub no_stretches : TwoStretches (units (new_name (last_name path))) (units (new_block new directory)) (volume_of s).extents → ⊥

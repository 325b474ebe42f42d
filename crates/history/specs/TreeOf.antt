-- The tree that an image holds: its slots followed from the root down.
use Rattle.std.specs.Prelude.{ℕ, zero, suc, List, [], ◌∷◌, true, false}
use Rattle.alloc.specs.Volume.{Objects, volume_of, objects, block_at}
use Rattle.tree.specs.Fields.{is_dir, Slot, slots, room, content, taken}
use Rattle.history.specs.Book.{Tree, end, empty, file_slot, dir_slot}

-- a row of slots, by what the directory at a ref holds
unfoldable pub tree_row : Objects → (ℕ → Tree) → List Slot → Tree
tree_row os sub [] = end
tree_row os sub (s ∷ ss) =
    elim (taken s) [
      | false ↦ empty (tree_row os sub ss)
      | true ↦ elim (is_dir (block_at os s.1)) [
        | false ↦ file_slot (block_at os s.0).body (room (block_at os s.1)) (content (block_at os s.1)) (tree_row os sub ss)
        | true ↦ dir_slot (block_at os s.0).body (sub s.1) (tree_row os sub ss)
      ]
    ]

-- the slots of the directory at ref r, with so many levels
unfoldable pub tree_at : Objects → ℕ → ℕ → Tree
tree_at os zero r = end
tree_at os (suc k) r = tree_row os (tree_at os k) (slots (block_at os r))

-- rule 5 ends it at 16 levels below the root
unfoldable pub tree_of : List ℕ → Tree
tree_of s = tree_at (objects (volume_of s)) 17 (volume_of s).root

-- Document 01's book: the tree that the accepted calls say there is, from their arguments alone.
use Rattle.std.specs.Prelude.{ℕ, zero, suc, ◌-◌, List, [], ◌∷◌, ◌++◌, true, false, length, take}
use Rattle.std.proofs.Math.Option.{Option, none, some}
use Rattle.storage.specs.Bytes.{splice, zeroed, same}
use Rattle.changes.specs.Changing.{New, directory, file}

-- a directory, as its row of slots: each empty, a file (name, room, bytes) or a directory (name, its own slots), and the slots after it
pub data Tree : Type 0 where
  end : Tree
  empty : Tree → Tree
  file_slot : List ℕ → ℕ → List ℕ → Tree → Tree
  dir_slot : List ℕ → Tree → Tree → Tree

-- so many empty slots
unfoldable pub empty_slots : ℕ → Tree
empty_slots zero = end
empty_slots (suc k) = empty (empty_slots k)

-- a change may find nothing to change: then there is none
abbrev pub keep : (Tree → Tree) → Option Tree → Option Tree
keep f none = none
keep f (some t) = some (f t)

-- a new object in front of the slots t: a directory of empty slots, or a file without bytes
abbrev pub filled : List ℕ → New → Tree → Tree
filled w (directory k) t = dir_slot w (empty_slots k) t
filled w (file n) t = file_slot w n [] t

-- make: the name and the new object in the lowest empty slot
unfoldable pub added : List ℕ → New → Tree → Option Tree
added w o end = none
added w o (empty t) = some (filled w o t)
added w o (file_slot v n x t) = keep (file_slot v n x) (added w o t)
added w o (dir_slot v c t) = keep (dir_slot v c) (added w o t)

-- a change of the directory in the slot with this name
unfoldable pub in_child : List ℕ → (Tree → Option Tree) → Tree → Option Tree
in_child w f end = none
in_child w f (empty t) = keep empty (in_child w f t)
in_child w f (file_slot v n x t) = keep (file_slot v n x) (in_child w f t)
in_child w f (dir_slot v c t) =
    elim (same v w) [ true ↦ keep (λ d. dir_slot v d t) (f c) | false ↦ keep (dir_slot v c) (in_child w f t) ]

-- a change of the directory that these components name
unfoldable pub in_directory : List (List ℕ) → (Tree → Option Tree) → Tree → Option Tree
in_directory [] f t = f t
in_directory (w ∷ ws) f t = in_child w (in_directory ws f) t

-- a change of the bytes of the file with this name
unfoldable pub changed : List ℕ → (List ℕ → List ℕ) → Tree → Option Tree
changed w f end = none
changed w f (empty t) = keep empty (changed w f t)
changed w f (file_slot v n x t) =
    elim (same v w) [ true ↦ some (file_slot v n (f x) t) | false ↦ keep (file_slot v n x) (changed w f t) ]
changed w f (dir_slot v c t) = keep (dir_slot v c) (changed w f t)

-- remove: the slot with this name is emptied
unfoldable pub emptied : List ℕ → Tree → Option Tree
emptied w end = none
emptied w (empty t) = keep empty (emptied w t)
emptied w (file_slot v n x t) = elim (same v w) [ true ↦ some (empty t) | false ↦ keep (file_slot v n x) (emptied w t) ]
emptied w (dir_slot v c t) = elim (same v w) [ true ↦ some (empty t) | false ↦ keep (dir_slot v c) (emptied w t) ]

-- write: where the file ends before the position, zeros are added up to it; then the bytes stand from the position on, over what stood there
unfoldable pub written : ℕ → List ℕ → List ℕ → List ℕ
written position bytes old = splice (old ++ zeroed (position - length old)) position bytes

-- set length: bytes are cut off, or zeros added, to that length
unfoldable pub resized : ℕ → List ℕ → List ℕ
resized n old = take n old ++ zeroed (n - length old)

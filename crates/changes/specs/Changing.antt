-- The calls that change the image, each as a function of the image and its arguments: the refusal, the ref of what was made, and the image then.
-- A refusal has all else zero, and the image as it was.
use Rattle.std.specs.Prelude.{ℕ, ◌+◌, ◌*◌, ◌-◌, ◌/◌, min, max, List, [], ◌∷◌, ◌++◌, Bool, true, false, cond, eqb, leb, length}
use Rattle.std.proofs.Math.Option.{none, some}
use Rattle.storage.specs.Bytes.{be64, zeroed}
use Rattle.alloc.specs.Block.{Block, SFde, SFna, SFre, units}
use Rattle.alloc.specs.Tiling.{within, length_allowed}
use Rattle.alloc.specs.Volume.{Extent, allocated, Volume, image, volume_of, objects}
use Rattle.alloc.specs.Gaps.{tightest}
use Rattle.alloc.specs.Room.{place_pair, released, updated, one_free}
use Rattle.tree.specs.Fields.{is_file, slot_at, slots, taken_count, file_size, room}
use Rattle.calls.specs.declared.refusal.Reason.TheVariants.{BadLength, NotFound, IsDirectory, Exists, NoSlot, NoRoom, NotEmpty, OutOfBounds, IsRoot, PastRoom}
use Rattle.calls.specs.Refusal.{Accepted, For, Refusal}
use Rattle.calls.specs.Walk.{slot_named, empty_slot, Start, refused, reached, start, start_above, last_name}
use Rattle.calls.specs.Reading.{block_in}

-- the refusal, and the image then
pub record Outcome : Type 0 where
  pub refusal : Refusal
  pub image : List ℕ

abbrev pub unchanged : Refusal → List ℕ → Outcome
unchanged r s = record { refusal = r; image = s }

abbrev pub done : Volume → Outcome
done v = record { refusal = Accepted; image = image v }

-- the volume of an image, with other extents
abbrev pub with_root : List ℕ → List Extent → Volume
with_root s es = record { root = (volume_of s).root; extents = es }

-- ---- new blocks: data and padding are zero but for the fields

-- a directory's parent ref, and k empty slots
abbrev pub new_directory : ℕ → ℕ → Block
new_directory parent k = record { magic = SFde; body = be64 parent ++ zeroed (16 * k) }

-- a file of size 0
abbrev pub new_file : ℕ → Block
new_file room = record { magic = SFre; body = zeroed (16 + room) }

abbrev pub new_name : List ℕ → Block
new_name w = record { magic = SFna; body = w }

-- ---- format: the superblock, the root at ref 2, the rest one free block if any is left; all other bytes zero

unfoldable pub formatted : ℕ → ℕ → Volume
formatted n k = record { root = 2; extents = allocated (new_directory 2 k) ∷ one_free (n / 16 - 2 - units (new_directory 2 k)) }

-- 1 for the length, 10 for the slots, 8 where they have no room
unfoldable pub format : List ℕ → ℕ → Outcome
format s k =
    elim (length_allowed (length s)) [
      | false ↦ unchanged (For BadLength) s
      | true ↦ elim (within 1 1024 k) [
        | false ↦ unchanged (For OutOfBounds) s
        | true ↦ elim (leb (32 + 16 * units (new_directory 2 k)) (length s)) [ false ↦ unchanged (For NoRoom) s | true ↦ done (formatted (length s) k) ]
      ]
    ]

-- ---- make directory (slots), make file (room)

pub data New : Type 0 where
  directory : ℕ → New
  file : ℕ → New

abbrev pub allowed : New → Bool
allowed (directory k) = within 1 1024 k
allowed (file n) = within 0 65536 n

-- the block of a new object in the directory at ref d
abbrev pub new_block : New → ℕ → Block
new_block (directory k) d = new_directory d k
new_block (file n) d = new_file n

-- the refs n and o in slot i of the directory at ref d
abbrev pub set_slot : ℕ → ℕ → ℕ → ℕ → List Extent → List Extent
set_slot d i n o es = updated d (8 + 16 * i) (be64 n ++ be64 o) 2 es

-- the ref is that of the new object
pub record Made : Type 0 where
  pub refusal : Refusal
  pub at : ℕ
  pub image : List ℕ

abbrev pub unmade : Refusal → List ℕ → Made
unmade r s = record { refusal = r; at = 0; image = s }

-- both blocks placed, and their refs in slot i of the directory at ref d; 8 where there is no room for both
unfoldable pub fill_slot : List ℕ → New → List ℕ → ℕ → ℕ → Made
fill_slot s new w d i =
    elim (place_pair tightest (new_name w) (new_block new d) (volume_of s).extents) [
      | none ↦ unmade (For NoRoom) s
      | some x ↦
          record { refusal = Accepted; at = x.object; image = image (with_root s (set_slot d i x.name x.object x.extents)) }
    ]

-- in the directory at ref d: 6 where the name is there, 7 where no slot is empty, or the lowest empty slot
unfoldable pub make_in : List ℕ → New → List ℕ → ℕ → Made
make_in s new w d =
    elim (slot_named (objects (volume_of s)) (block_in s d) w) [
      | some i ↦ unmade (For Exists) s
      | none ↦ elim (empty_slot (block_in s d)) [ none ↦ unmade (For NoSlot) s | some i ↦ fill_slot s new w d i ]
    ]

abbrev pub make_at : List ℕ → New → List ℕ → Start → Made
make_at s new w (refused r) = unmade r s
make_at s new w (reached d) = make_in s new w d

unfoldable pub make : List ℕ → List ℕ → New → Made
make s path new = make_at s new (last_name path) (start_above s path (allowed new) Exists)

-- ---- remove: the slot emptied, both blocks freed

abbrev pub removed : List ℕ → ℕ → ℕ → Volume
removed s d i =
    let x = slot_at (block_in s d) i in
    with_root s (released x.1 (released x.0 (set_slot d i 0 0 (volume_of s).extents)))

-- from the directory at ref d: 3, or 9 where the object has a taken slot (a file has no slots)
unfoldable pub remove_in : List ℕ → List ℕ → ℕ → Outcome
remove_in s w d =
    elim (slot_named (objects (volume_of s)) (block_in s d) w) [
      | none ↦ unchanged (For NotFound) s
      | some i ↦
          elim (eqb (taken_count (slots (block_in s (slot_at (block_in s d) i).1))) 0) [ false ↦ unchanged (For NotEmpty) s | true ↦ done (removed s d i) ]
    ]

abbrev pub remove_at : List ℕ → List ℕ → Start → Outcome
remove_at s w (refused r) = unchanged r s
remove_at s w (reached d) = remove_in s w d

unfoldable pub remove : List ℕ → List ℕ → Outcome
remove s path = remove_at s (last_name path) (start_above s path true IsRoot)

-- ---- write and set length

-- the file at ref r with this size, and bytes x over its content from a position on
abbrev pub stored : List ℕ → ℕ → ℕ → ℕ → List ℕ → Volume
stored s r size from x = with_root s (updated r 0 (be64 size) 2 (updated r (16 + from) x 2 (volume_of s).extents))

-- bytes from a position on; a gap after the old end becomes zeros; none change nothing
abbrev pub written : List ℕ → ℕ → ℕ → List ℕ → Outcome
written s r position [] = unchanged Accepted s
written s r position (y ∷ ys) =
    let old = file_size (block_in s r) in
    let end = position + length (y ∷ ys) in
    let from = min position old in
    done (stored s r (max old end) from (zeroed (position - from) ++ (y ∷ ys)))

-- 12 where the end is past the room
abbrev pub write_to : List ℕ → ℕ → ℕ → List ℕ → Outcome
write_to s r position bytes = cond (leb (position + length bytes) (room (block_in s r))) (written s r position bytes) (unchanged (For PastRoom) s)

abbrev pub write_at : List ℕ → ℕ → List ℕ → Start → Outcome
write_at s position bytes (refused r) = unchanged r s
write_at s position bytes (reached r) = cond (is_file (block_in s r)) (write_to s r position bytes) (unchanged (For IsDirectory) s)

unfoldable pub write : List ℕ → List ℕ → ℕ → List ℕ → Outcome
write s path position bytes = write_at s position bytes (start s path true)

-- bytes cut off become zeros, and bytes gained are zeros
abbrev pub resized : List ℕ → ℕ → ℕ → Outcome
resized s r size =
    let old = file_size (block_in s r) in
    let from = min size old in
    done (stored s r size from (zeroed (max size old - from)))

-- 12 where the length is past the room
abbrev pub set_length_of : List ℕ → ℕ → ℕ → Outcome
set_length_of s r size = cond (leb size (room (block_in s r))) (resized s r size) (unchanged (For PastRoom) s)

abbrev pub set_length_at : List ℕ → ℕ → Start → Outcome
set_length_at s size (refused r) = unchanged r s
set_length_at s size (reached r) = cond (is_file (block_in s r)) (set_length_of s r size) (unchanged (For IsDirectory) s)

unfoldable pub set_length : List ℕ → List ℕ → ℕ → Outcome
set_length s path size = set_length_at s size (start s path true)

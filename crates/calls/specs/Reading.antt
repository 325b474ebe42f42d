-- The calls that change nothing, each as a function of the image and its arguments. A refusal has all else zero.
use Rattle.std.specs.Prelude.{ℕ, ◌*◌, ◌-◌, List, true, cond, leb, length, take, drop}
use Rattle.storage.specs.Bytes.{splice, zeroed}
use Rattle.alloc.specs.Block.{Block}
use Rattle.alloc.specs.Tiling.{within}
use Rattle.alloc.specs.Volume.{volume_of, objects, block_at}
use Rattle.tree.specs.Fields.{is_dir, is_file, slots, total, taken_count, file_size, room, content}
use Rattle.calls.specs.declared.refusal.Reason.TheVariants.{IsDirectory, PastEnd}
use Rattle.calls.specs.Refusal.{Accepted, For, Refusal}
use Rattle.calls.specs.Walk.{Start, refused, reached, start}

-- the block at a ref of the image
abbrev pub block_in : List ℕ → ℕ → Block
block_in s r = block_at (objects (volume_of s)) r

-- ---- find: the ref and the kind, a file with its size and room or a directory with its taken and total slots
pub data Kind : Type 0 where
  file : ℕ → ℕ → Kind
  directory : ℕ → ℕ → Kind

pub record Found : Type 0 where
  pub refusal : Refusal
  pub at : ℕ
  pub kind : Kind

abbrev pub kind_of : Block → Kind
kind_of b = cond (is_dir b) (directory (taken_count (slots b)) (total b)) (file (file_size b) (room b))

abbrev pub found_at : List ℕ → Start → Found
found_at s (refused r) = record { refusal = r; at = 0; kind = file 0 0 }
found_at s (reached r) = record { refusal = Accepted; at = r; kind = kind_of (block_in s r) }

unfoldable pub find : List ℕ → List ℕ → Found
find s path = found_at s (start s path true)

-- ---- read: the bytes from the position to the file's end or the buffer's, and their count; the rest of the buffer is unchanged
pub record Read : Type 0 where
  pub refusal : Refusal
  pub count : ℕ
  pub buffer : List ℕ

abbrev pub copied : List ℕ → List ℕ → Read
copied buffer bytes = record { refusal = Accepted; count = length bytes; buffer = splice buffer 0 bytes }

abbrev pub unread : Refusal → List ℕ → Read
unread r buffer = record { refusal = r; count = 0; buffer = buffer }

abbrev pub read_at : List ℕ → ℕ → List ℕ → Start → Read
read_at s position buffer (refused r) = unread r buffer
read_at s position buffer (reached r) =
    cond (is_file (block_in s r)) (copied buffer (take (length buffer) (drop position (content (block_in s r))))) (unread (For IsDirectory) buffer)

unfoldable pub read : List ℕ → List ℕ → ℕ → List ℕ → Read
read s path position buffer = read_at s position buffer (start s path true)

-- ---- read point: points 1 to 4096, the 16 bytes at 16(n - 1), all of them within the file size
pub record Point : Type 0 where
  pub refusal : Refusal
  pub bytes : List ℕ

abbrev pub no_point : Refusal → Point
no_point r = record { refusal = r; bytes = zeroed 16 }

abbrev pub point_of : ℕ → Block → Point
point_of n b = cond (leb (16 * n) (file_size b)) (record { refusal = Accepted; bytes = take 16 (drop (16 * (n - 1)) (content b)) }) (no_point (For PastEnd))

abbrev pub point_at : List ℕ → ℕ → Start → Point
point_at s n (refused r) = no_point r
point_at s n (reached r) = cond (is_file (block_in s r)) (point_of n (block_in s r)) (no_point (For IsDirectory))

unfoldable pub read_point : List ℕ → List ℕ → ℕ → Point
read_point s path n = point_at s n (start s path (within 1 4096 n))

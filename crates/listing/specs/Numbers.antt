-- Kinds and lines as numbers.
use Rattle.std.specs.Prelude.{ℕ, ◌+◌, ◌-◌, ◌*◌, ◌/◌, List, [], ◌∷◌, ◌++◌, ◌≡◌, length, take}
use Rattle.storage.specs.Bytes.{splice}
use Rattle.calls.specs.Reading.{Kind, file, directory}
use Rattle.history.specs.Listing.{Line}

-- 0 for a file, 1 for a directory
abbrev pub directory_of : Kind → ℕ
directory_of (file size room) = 0
directory_of (directory taken total) = 1

-- the size, or the taken slots
abbrev pub first_of : Kind → ℕ
first_of (file size room) = size
first_of (directory taken total) = taken

-- the room, or the slots in all
abbrev pub second_of : Kind → ℕ
second_of (file size room) = room
second_of (directory taken total) = total

-- a line: ref, parent, name, depth, whether it is a directory, and its two numbers
abbrev pub seven_of : Line → List ℕ
seven_of l = l.ref ∷ l.parent ∷ l.name ∷ l.depth ∷ directory_of l.kind ∷ first_of l.kind ∷ second_of l.kind ∷ []

unfoldable pub numbers_of : List Line → List ℕ
numbers_of [] = []
numbers_of (l ∷ ls) = seven_of l ++ numbers_of ls

-- of a row of lines whose first is line i, those before line n are stored in a row of numbers, and k is the next
pub record StoresTo (n i : ℕ) (ls : List Line) (before : List ℕ) (k : ℕ) (after : List ℕ) : Type 0 where
  pub next : k ≡ i + length ls
  pub stored : after ≡ splice before (7 * i) (numbers_of (take (n - i) ls))
  pub same_size : length after ≡ length before

-- those that the row has room for
abbrev pub Stores : ℕ → List Line → List ℕ → ℕ → List ℕ → Type 0
Stores i ls before k after = StoresTo (length before / 7) i ls before k after

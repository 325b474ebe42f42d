-- List: a line for every object of the image, the root first; a directory lists its objects, and an object that is a directory lists itself
-- in turn before the next slot.
use Rattle.std.specs.Prelude.{ℕ, zero, suc, List, [], ◌∷◌, ◌++◌, true, false, cond, leb, length, drop}
use Rattle.alloc.specs.Block.{Block}
use Rattle.alloc.specs.Volume.{Objects, volume_of, objects, block_at}
use Rattle.tree.specs.Fields.{Slot, slots, taken}
use Rattle.tree.specs.Verdict.{well_formed}
use Rattle.calls.specs.declared.refusal.Reason.TheVariants.{TooFewLines}
use Rattle.calls.specs.Refusal.{Accepted, For, Refusal, check}
use Rattle.calls.specs.Reading.{Kind, kind_of}

-- a line: the object's ref, its parent's, its name's (0 for the root), its depth, and its kind with the two numbers
pub record Line : Type 0 where
  pub ref : ℕ
  pub parent : ℕ
  pub name : ℕ
  pub depth : ℕ
  pub kind : Kind

unfoldable pub line_of : ℕ → ℕ → ℕ → ℕ → Block → Line
line_of r up n d b = record { ref = r; parent = up; name = n; depth = d; kind = kind_of b }

-- the lines of a row of slots, by what lists one object from its name ref and its ref
unfoldable pub slot_lines : (ℕ → ℕ → List Line) → List Slot → List Line
slot_lines object [] = []
slot_lines object (s ∷ ss) = cond (taken s) (object s.0 s.1 ++ slot_lines object ss) (slot_lines object ss)

-- the lines of the object at ref r and of what it holds; the first number bounds the depth below it
unfoldable pub object_lines : ℕ → Objects → ℕ → ℕ → ℕ → ℕ → List Line
object_lines zero os r up n d = line_of r up n d (block_at os r) ∷ []
object_lines (suc k) os r up n d =
    line_of r up n d (block_at os r) ∷ slot_lines (λ m o. object_lines k os o r m (suc d)) (slots (block_at os r))

-- all lines of the image: no object is deeper than 16
unfoldable pub lines_of : List ℕ → List Line
lines_of s = object_lines 16 (objects (volume_of s)) (volume_of s).root (volume_of s).root 0 0

pub record Listed : Type 0 where
  pub refusal : Refusal
  pub count : ℕ
  pub lines : List Line

-- the row of lines as it was lent; where it is too short the count tells how many are needed; lines beyond the count are unchanged
unfoldable pub list : List ℕ → List Line → Listed
list s lent =
    elim (well_formed s) [
      | false ↦ record { refusal = check s; count = 0; lines = lent }
      | true ↦ elim (leb (length (lines_of s)) (length lent)) [
        | false ↦ record { refusal = For TooFewLines; count = length (lines_of s); lines = lent }
        | true ↦ record { refusal = Accepted; count = length (lines_of s); lines = lines_of s ++ drop (length (lines_of s)) lent }
      ]
    ]

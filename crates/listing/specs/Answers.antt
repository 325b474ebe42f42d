-- What the answers of this crate's functions say, and what they require.
use Rattle.std.specs.Prelude.{suc, zero, ℕ, List, [], ◌++◌, ◌∷◌, map, ◌≡◌, get_or, length}
use Rattle.storage.specs.declared.Ref.{Ref}
use Rattle.tree.specs.Fields.{total}
use Rattle.calls.specs.Refusal.{Refusal}
use Rattle.calls.specs.declared.reading.Kind as declared-kind
use Rattle.calls.specs.declared.reading.Kind.TheVariants.{File, Directory}
use Rattle.calls.specs.Answers.{kind_is}
use Rattle.calls.specs.Reading.{Kind, file, directory}
use Rattle.listing.specs.declared.lines.Line as declared-line
use Rattle.history.specs.Listing.{Line, Listed, lines_of, list}

abbrev pub line_is : declared-line.Line → Line
line_is l = record { ref = l.node.at.0; parent = l.node.parent.0; name = l.node.name.0; depth = l.node.depth; kind = kind_is l.kind }

-- ---- the call

-- a line as it is stored
abbrev ref_as : ℕ → Ref
ref_as r = record { 0 = r }

abbrev kind_as : Kind → declared-kind.Kind
kind_as (file size room) = File size room
kind_as (directory taken total) = Directory taken total

unfoldable pub line_as : Line → declared-line.Line
line_as l = record { node = record { at = ref_as l.ref; parent = ref_as l.parent; name = ref_as l.name; depth = l.depth }; kind = kind_as l.kind }

-- what stands where there is no line
abbrev pub no_line : Line
no_line = record { ref = 0; parent = 0; name = 0; depth = 0; kind = file 0 0 }

-- line i of the image
unfoldable pub line_no : List ℕ → ℕ → declared-line.Line
line_no s i = line_as (get_or (lines_of s) i no_line)

-- the first n
abbrev pub lines_to : List ℕ → ℕ → List declared-line.Line
lines_to s zero = []
lines_to s (suc n) = lines_to s n ++ (line_no s n ∷ [])

-- the call's refusal and count, where so many lines are lent
pub record AnswersFor (s : List ℕ) (n : ℕ) (refusal : Refusal) (count : ℕ) : Type 0 where
  pub answers : (lent : List Line) → length lent ≡ n → (refusal ≡ (list s lent).refusal) × (count ≡ (list s lent).count)

-- the call's answer, and the row then
pub record Lists (a : Listed) (refusal : Refusal) (count : ℕ) (lines : List declared-line.Line) : Type 0 where
  pub refusal_is : refusal ≡ a.refusal
  pub count-is : count ≡ a.count
  pub lines_are : map line_is lines ≡ a.lines

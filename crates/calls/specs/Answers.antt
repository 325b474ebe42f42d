-- What the answers of this crate's functions say, and what they require.
use Rattle.std.specs.Prelude.{ℕ, List, ◌≡◌, Bool, true, ◌&&◌, ◌||◌, length, take, drop, Result, Ok, Err, Some, None}
use Rattle.std.specs.Prelude as std
use Rattle.std.proofs.Math.Option.{Option, none, some}
use Rattle.storage.specs.Bytes.{same, zeroed}
use Rattle.storage.specs.declared.Ref.{Ref}
use Rattle.alloc.specs.Block.{Block}
use Rattle.tree.specs.Fields.{is_dir, is_file, slot_at, taken, content}
use Rattle.tree.specs.Answers.{rule_number}
use Rattle.tree.specs.Verdict.{well_formed}
use Rattle.calls.specs.declared.refusal.Reason.{Reason}
use Rattle.calls.specs.declared.refusal.Refusal as declared-refusal
use Rattle.calls.specs.declared.refusal.Refusal.TheVariants as told
use Rattle.calls.specs.declared.reading.Kind as declared-kind
use Rattle.calls.specs.declared.reading.Kind.TheVariants.{File, Directory}
use Rattle.calls.specs.declared.reading.Found as declared-found
use Rattle.calls.specs.Refusal.{Refusal, Accepted, For, Checked, broken}
use Rattle.calls.specs.Walk.{Start, refused, reached}
use Rattle.calls.specs.Reading.{Kind, file, directory, Found, Read, Point, copied, block_in}

-- why a call is refused
abbrev pub refused_as : declared-refusal.Refusal → Refusal
refused_as (told.Broken b) = broken (record { rule = rule_number b.rule; place = b.place.0 })
refused_as (told.For w) = For w

-- what an answer tells of its call: accepted, or why it is refused
abbrev pub outcome_of : {T : Type 0} → Result T declared-refusal.Refusal → Refusal
outcome_of (Ok x) = Accepted
outcome_of (Err r) = refused_as r

-- which slot
abbrev pub index_of : std.Option ℕ → Option ℕ
index_of None = none
index_of (Some i) = some i

-- where one step comes to: the object, or why there is none
abbrev pub step_of : Result Ref Reason → Start
step_of (Ok r) = reached r.0
step_of (Err w) = refused (For w)

-- how a call begins
abbrev pub start_of : Result Ref declared-refusal.Refusal → Start
start_of (Ok r) = reached r.0
start_of (Err r) = refused (refused_as r)

-- find's kind: a file with size and room, or a directory with taken and total slots
abbrev pub kind_is : declared-kind.Kind → Kind
kind_is (File size room) = file size room
kind_is (Directory taken total) = directory taken total

-- what find tells
abbrev pub found_of : declared-found.Found → Found
found_of f = record { refusal = outcome_of f.refusal; at = f.at.0; kind = kind_is f.kind }

-- how many bytes a read tells: none on a refusal
abbrev pub count_of : Result ℕ declared-refusal.Refusal → ℕ
count_of (Ok n) = n
count_of (Err r) = 0

-- the bytes of a point: zeros on a refusal
abbrev pub point_bytes_of : Result (List ℕ) declared-refusal.Refusal → List ℕ
point_bytes_of (Ok bytes) = bytes
point_bytes_of (Err r) = zeroed 16

-- a file or directory of a well-formed image, at ref r
pub record ObjectAt (s : List ℕ) (r : ℕ) : Type 0 where
  pub formed : well_formed s ≡ true
  pub kind : (is_file (block_in s r) || is_dir (block_in s r)) ≡ true

-- a directory of a well-formed image
pub record DirectoryIn (s : List ℕ) (r : ℕ) : Type 0 where
  pub formed : well_formed s ≡ true
  pub kind : is_dir (block_in s r) ≡ true

-- a file of a well-formed image
pub record FileIn (s : List ℕ) (r : ℕ) : Type 0 where
  pub formed : well_formed s ≡ true
  pub kind : is_file (block_in s r) ≡ true

-- the object at ref r passes this test of kinds, and t and q are its image and its ref
pub record KnownAs (test : Block → Bool) (s : List ℕ) (r : ℕ) (t : List ℕ) (q : ℕ) : Type 0 where
  pub kind : test (block_in s r) ≡ true
  pub image : t ≡ s
  pub at : q ≡ r

-- slot i of the directory at ref r is taken, with this name
abbrev pub named : List ℕ → ℕ → ℕ → List ℕ → Bool
named s r i w = taken (slot_at (block_in s r) i) && same (block_in s (slot_at (block_in s r) i).0).body w

-- a read's answer, and the buffer then
pub record Reads (a : Read) (refusal : Refusal) (count : ℕ) (buffer : List ℕ) : Type 0 where
  pub refusal_is : refusal ≡ a.refusal
  pub count-is : count ≡ a.count
  pub buffer-is : buffer ≡ a.buffer

-- the copying part of a read
pub record Copies (s : List ℕ) (r position : ℕ) (before : List ℕ) (count : ℕ) (buffer : List ℕ) : Type 0 where
  pub bytes : Reads (copied before (take (length before) (drop position (content (block_in s r))))) Accepted count buffer

-- a point's answer
pub record Points (p : Point) (refusal : Refusal) (bytes : List ℕ) : Type 0 where
  pub refusal_is : refusal ≡ p.refusal
  pub bytes-is : bytes ≡ p.bytes

-- check with marks: the refusal, and the marks then
pub record Checks (x : Checked) (r : Refusal) (m : List ℕ) : Type 0 where
  pub refusal_is : r ≡ x.refusal
  pub marks_are : m ≡ x.marks

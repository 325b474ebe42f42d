-- Refusals, document 01's numbers for them, and the place of document 02's #101.
use Rattle.std.specs.Prelude.{ℕ, ◌+◌, ◌/◌, List, Bool, cond, eqb, ltb, length}
use Rattle.storage.specs.Bytes.{splice}
use Rattle.storage.specs.declared.Ref.{Ref}
use Rattle.tree.specs.Verdict.{Verdict, verdict, marks_after}
use Rattle.calls.specs.declared.refusal.Reason.{Reason}
use Rattle.calls.specs.declared.refusal.Reason.TheVariants.{BadLength, BadPath, NotFound, NotDirectory, IsDirectory, Exists, NoSlot}
use Rattle.calls.specs.declared.refusal.Reason.TheVariants.{NoRoom, NotEmpty, OutOfBounds, IsRoot, PastRoom, PastEnd, TooFewLines, TooFewMarks}

-- a call is accepted, or the image breaks a rule (the number, 21 to 28, and the first block that breaks it), or it is refused for another reason
pub data Refusal : Type 0 where
  Accepted : Refusal
  Broken : ℕ → Ref → Refusal
  For : Reason → Refusal

-- the numbers that the controller shows
abbrev pub reason_number : Reason → ℕ
-- format: the length is not allowed
reason_number BadLength = 1
-- the path is not valid, or has over 16 components
reason_number BadPath = 2
-- a component is not there (for a make call: one before the last)
reason_number NotFound = 3
-- a component before the last is a file
reason_number NotDirectory = 4
-- read, read point, write or set length names a directory
reason_number IsDirectory = 5
-- the thing to make is there already, the root included
reason_number Exists = 6
-- no empty slot
reason_number NoSlot = 7
-- no free room (format: the image is too short for its slots)
reason_number NoRoom = 8
-- the directory to remove has a taken slot
reason_number NotEmpty = 9
-- slots, room or point number outside its bound
reason_number OutOfBounds = 10
-- the root is to be removed
reason_number IsRoot = 11
-- write's end or set length past the room
reason_number PastRoom = 12
-- the point's 16 bytes do not all lie within the file size
reason_number PastEnd = 13
-- fewer lines lent than objects
reason_number TooFewLines = 14
-- check with marks: fewer marks lent than the image has units
reason_number TooFewMarks = 17

-- 0 is done
abbrev pub number_of : Refusal → ℕ
number_of Accepted = 0
number_of (Broken n r) = n
number_of (For w) = reason_number w

-- the first block that breaks the rule; 0 beside every other number
abbrev pub place_of : Refusal → ℕ
place_of Accepted = 0
place_of (Broken n r) = r.0
place_of (For w) = 0

-- a call is accepted where its number is 0
abbrev pub accepted : Refusal → Bool
accepted r = eqb (number_of r) 0

-- rule n is refused with 20 + n, at the verdict's place
abbrev pub broken : Verdict → Refusal
broken v = Broken (20 + v.rule) (record { 0 = v.place })

abbrev pub refusal_of : Verdict → Refusal
refusal_of v = cond (eqb v.rule 0) Accepted (broken v)

-- ---- check: the image's own refusal, which every call that looks at the image begins with
unfoldable pub check : List ℕ → Refusal
check s = refusal_of (verdict s)

-- ---- check with marks: its refusal, and the lent marks then
pub record Checked : Type 0 where
  pub refusal : Refusal
  pub marks : List ℕ

-- one mark for each 16-byte unit is needed; those past the image's units stay
unfoldable pub check_marked : List ℕ → List ℕ → Checked
check_marked s m =
    cond (ltb (length m) (length s / 16)) (record { refusal = For TooFewMarks; marks = m })
    (record { refusal = check s; marks = splice m 0 (marks_after s) })

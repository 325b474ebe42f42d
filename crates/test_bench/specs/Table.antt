-- The marked cases of document 01's part "From the bench": one table, in the document's order.
use Rattle.std.specs.Prelude.{ℕ, zero, suc, ◌+◌, List, [], ◌∷◌, ◌++◌, Bool, true, false, ◌&&◌, eqb, replicate}
use Rattle.storage.specs.Bytes.{u64_at, same, zeroed}
use Rattle.alloc.specs.Block.{SFde, SFna, SFre, SFfr, units_for, magic_at, size_at}
use Rattle.calls.specs.Refusal.{number_of}
use Rattle.calls.specs.Reading as reading
use Rattle.changes.specs.Changing as changing

-- ---- calls

-- each with its arguments; a read has a position and the length of its buffer
pub data Call : Type 0 where
  format : ℕ → Call
  find : List ℕ → Call
  read : List ℕ → ℕ → ℕ → Call
  read_point : List ℕ → ℕ → Call
  make_directory : List ℕ → ℕ → Call
  make_file : List ℕ → ℕ → Call
  write : List ℕ → ℕ → List ℕ → Call
  set_length : List ℕ → ℕ → Call
  remove : List ℕ → Call

-- the number, the ref of what was made or found, the bytes read, and the image then
pub record Answer : Type 0 where
  pub number : ℕ
  pub ref : ℕ
  pub bytes : List ℕ
  pub image : List ℕ

abbrev pub changed : changing.Outcome → Answer
changed o = record { number = number_of o.refusal; ref = 0; bytes = []; image = o.image }

abbrev pub made : changing.Made → Answer
made m = record { number = number_of m.refusal; ref = m.at; bytes = []; image = m.image }

abbrev pub found : List ℕ → reading.Found → Answer
found s f = record { number = number_of f.refusal; ref = f.at; bytes = []; image = s }

abbrev pub copied : List ℕ → reading.Read → Answer
copied s r = record { number = number_of r.refusal; ref = 0; bytes = r.buffer; image = s }

abbrev pub point : List ℕ → reading.Point → Answer
point s p = record { number = number_of p.refusal; ref = 0; bytes = p.bytes; image = s }

-- a call on an image, by the calls' own definitions; a read's buffer is all 7 before
unfoldable pub run : List ℕ → Call → Answer
run s (format k) = changed (changing.format s k)
run s (find p) = found s (reading.find s p)
run s (read p position n) = copied s (reading.read s p position (replicate n 7))
run s (read_point p n) = point s (reading.read_point s p n)
run s (make_directory p k) = made (changing.make s p (changing.directory k))
run s (make_file p n) = made (changing.make s p (changing.file n))
run s (write p position x) = changed (changing.write s p position x)
run s (set_length p n) = changed (changing.set_length s p n)
run s (remove p) = changed (changing.remove s p)

-- ---- rows

-- what a call is to answer: done; a refusal's number; done, with this ref; done, with these bytes
pub data Says : Type 0 where
  done : Says
  refuses : ℕ → Says
  at : ℕ → Says
  gives : List ℕ → Says

unfoldable pub says : Says → Answer → Bool
says done x = eqb x.number 0
says (refuses n) x = eqb x.number n && eqb x.ref 0
says (at r) x = eqb x.number 0 && eqb x.ref r
says (gives v) x = eqb x.number 0 && same x.bytes v

-- what stands in the image then: the 8 bytes at an offset; at a ref a block with this magic, so many units and this size
pub data Fact : Type 0 where
  word : ℕ → ℕ → Fact
  block : ℕ → ℕ → ℕ → ℕ → Fact

unfoldable pub stands : List ℕ → Fact → Bool
stands s (word o n) = eqb (u64_at s o) n
stands s (block r magic units size) = eqb (magic_at s r) magic && (eqb (units_for (size_at s r)) units && eqb (size_at s r) size)

unfoldable pub all_stand : List ℕ → List Fact → Bool
all_stand s [] = true
all_stand s (f ∷ fs) = stands s f && all_stand s fs

-- calls one after the other, each with what it is to answer, and then the facts
unfoldable pub follow : List ℕ → List (Call × Says) → List Fact → Bool
follow s [] fs = all_stand s fs
follow s (c ∷ cs) fs = let x = run s c.0 in elim (says c.1 x) [ true ↦ follow x.image cs fs | false ↦ false ]

-- a row: the length of an image whose bytes are all 7, calls, facts
pub data Row : Type 0 where
  row : ℕ → List (Call × Says) → List Fact → Row

unfoldable pub holds : Row → Bool
holds (row n cs fs) = follow (replicate n 7) cs fs

unfoldable pub all_hold : List Row → Bool
all_hold [] = true
all_hold (r ∷ rs) = holds r && all_hold rs

-- ---- the paths "/heel", "/a", "/b"

abbrev pub heel : List ℕ
heel = 0x2f ∷ 0x68 ∷ 0x65 ∷ 0x65 ∷ 0x6c ∷ []

abbrev pub a : List ℕ
a = 0x2f ∷ 0x61 ∷ []

abbrev pub b : List ℕ
b = 0x2f ∷ 0x62 ∷ []

-- ---- the table

-- an image of 256 bytes, formatted with 2 slots; then /heel; then /a; then without /heel
abbrev pub card : List (Call × Says)
card = (format 2, done) ∷ []

abbrev pub with_heel : List (Call × Says)
with_heel = card ++ ((make_file heel 32, at 5) ∷ [])

abbrev pub with_both : List (Call × Says)
with_both = with_heel ++ ((make_directory a 1, at 10) ∷ [])

abbrev pub without_heel : List (Call × Says)
without_heel = with_both ++ ((make_file b 40, refuses 7) ∷ (remove heel, done) ∷ [])

-- n bytes, each one more than the one before
abbrev pub upward : ℕ → ℕ → List ℕ
upward from zero = []
upward from (suc n) = from ∷ upward (from + 1) n

-- on the card, a file with the bytes 1 to 40
abbrev pub forty : List (Call × Says)
forty = card ++ ((make_file heel 40, at 5) ∷ (write heel 0 (upward 1 40), done) ∷ [])

-- every call on this path is refused with 2
abbrev pub not_valid : List ℕ → List (Call × Says)
not_valid p =
    (find p, refuses 2)
    ∷ (read p 0 4, refuses 2)
    ∷ (read_point p 1, refuses 2)
    ∷ (make_directory p 1, refuses 2)
    ∷ (make_file p 0, refuses 2)
    ∷ (write p 0 (1 ∷ []), refuses 2)
    ∷ (set_length p 0, refuses 2)
    ∷ (remove p, refuses 2)
    ∷ []

-- In a row's words: byte 8 has the root ref and 16 the first free ref; 48 and 56 the refs of the name and the object in the root's slot 0,
-- 64 and 72 those in slot 1; 88 the file size of a file at ref 5, or the next ref of a free block there.
unfoldable pub table : List Row
table =
    -- root at ref 2, size 40; free block ref 5, 11 units, size 168; first free 5
    row 256 card (word 8 2 ∷ block 2 SFde 3 40 ∷ block 5 SFfr 11 168 ∷ word 16 5 ∷ [])
    -- make file /heel, room 32: file (4 units) ref 5, name ref 9, free ref 10 with 6 units, size 88
    ∷ row 256 with_heel (word 48 9 ∷ word 56 5 ∷ block 5 SFre 4 48 ∷ block 9 SFna 1 4 ∷ word 16 10 ∷ block 10 SFfr 6 88 ∷ [])
    -- then make directory /a, 1 slot: ref 10, name ref 12, free ref 13, 3 units
    ∷ row 256 with_both (word 64 12 ∷ word 72 10 ∷ block 10 SFde 2 24 ∷ block 12 SFna 1 1 ∷ word 16 13 ∷ block 13 SFfr 3 40 ∷ [])
    -- then /b: 7; remove /heel: free ref 5, 5 units, next 13
    ∷ row 256 without_heel (word 48 0 ∷ word 56 0 ∷ word 16 5 ∷ block 5 SFfr 5 72 ∷ word 88 13 ∷ [])
    -- now /b with room 40: file 5, name 9
    ∷ row 256 (without_heel ++ ((make_file b 40, at 5) ∷ [])) (word 48 9 ∷ word 56 5 ∷ block 5 SFre 4 56 ∷ block 9 SFna 1 1 ∷ word 16 13 ∷ [])
    -- instead room 41: file 5, name 13, first free 14
    ∷ row 256 (without_heel ++ ((make_file b 41, at 5) ∷ [])) (word 48 13 ∷ word 56 5 ∷ block 5 SFre 5 57 ∷ block 13 SFna 1 1 ∷ word 16 14 ∷ [])
    -- instead room 56 is placed
    ∷ row 256 (without_heel ++ ((make_file b 56, at 5) ∷ [])) (word 48 13 ∷ word 56 5 ∷ block 5 SFre 5 72 ∷ [])
    -- room 57 gives 8
    ∷ row 256 (without_heel ++ ((make_file b 57, refuses 8) ∷ [])) (word 48 0 ∷ word 56 0 ∷ word 16 5 ∷ [])
    -- 64 bytes, 1 slot: accepted, first free 0
    ∷ row 64 ((format 1, done) ∷ []) (block 2 SFde 2 24 ∷ word 16 0 ∷ [])
    -- 2 slots: 8
    ∷ row 64 ((format 2, refuses 8) ∷ []) []
    -- length 48, 65 or 0: 1
    ∷ row 48 ((format 1, refuses 1) ∷ []) []
    ∷ row 65 ((format 1, refuses 1) ∷ []) []
    ∷ row 0 ((format 1, refuses 1) ∷ []) []
    -- room 32, empty: write 4 bytes at 28 gives size 32 with 28 zeros before
    ∷ row 256 (with_heel ++ ((write heel 28 (upward 1 4), done) ∷ (read heel 0 32, gives (zeroed 28 ++ upward 1 4)) ∷ [])) (word 88 32 ∷ [])
    -- write 1 at 32: 12
    ∷ row 256 (with_heel ++ ((write heel 32 (1 ∷ []), refuses 12) ∷ [])) (word 88 0 ∷ [])
    -- write none at 32: done
    ∷ row 256 (with_heel ++ ((write heel 32 [], done) ∷ [])) (word 88 0 ∷ [])
    -- none at 33: 12
    ∷ row 256 (with_heel ++ ((write heel 33 [], refuses 12) ∷ [])) (word 88 0 ∷ [])
    -- points 4097 and 0: 10
    ∷ row 256 (forty ++ ((read_point heel 4097, refuses 10) ∷ (read_point heel 0, refuses 10) ∷ [])) []
    -- size 40: point 2 is read, point 3: 13
    ∷ row 256 (forty ++ ((read_point heel 2, gives (upward 17 16)) ∷ (read_point heel 3, refuses 13) ∷ [])) (word 88 40 ∷ [])
    -- paths "", "/a/", "//", "a", "/..": 2
    ∷ row 256 (with_both ++ not_valid []) []
    ∷ row 256 (with_both ++ not_valid (0x2f ∷ 0x61 ∷ 0x2f ∷ [])) []
    ∷ row 256 (with_both ++ not_valid (0x2f ∷ 0x2f ∷ [])) []
    ∷ row 256 (with_both ++ not_valid (0x61 ∷ [])) []
    ∷ row 256 (with_both ++ not_valid (0x2f ∷ 0x2e ∷ 0x2e ∷ [])) []
    ∷ []

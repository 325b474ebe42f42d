-- One history, worked out: that of the bench, with the book, its objects and the listing at three moments.
use Rattle.std.specs.Prelude.{ℕ, zero, suc, ◌+◌, ◌-◌, List, [], ◌∷◌, ◌++◌, map, length, replicate}
use Rattle.std.proofs.Math.Option.{Option, some}
use Rattle.storage.specs.Bytes.{zeroed}
use Rattle.calls.specs.Refusal.{Accepted, Broken, number_of}
use Rattle.calls.specs.Reading.{Kind, file, directory}
use Rattle.changes.specs.Changing as new
use Rattle.history.specs.Book.{Tree, end, empty, file_slot, dir_slot}
use Rattle.history.specs.Claim.{Entry, entries, owned, owners}
use Rattle.history.specs.History.{Call, format, make, write, set_length, remove, step, After, history}
use Rattle.history.specs.Listing.{Line, Listed, lines_of, list}
use Rattle.history.specs.TreeOf.{tree_of}

-- ---- the paths "/", "/heel", "/a", "/b" and "/a/c"

abbrev pub root : List ℕ
root = 0x2f ∷ []

abbrev pub heel : List ℕ
heel = 0x2f ∷ 0x68 ∷ 0x65 ∷ 0x65 ∷ 0x6c ∷ []

abbrev pub a : List ℕ
a = 0x2f ∷ 0x61 ∷ []

abbrev pub b : List ℕ
b = 0x2f ∷ 0x62 ∷ []

abbrev pub c : List ℕ
c = a ++ (0x2f ∷ 0x63 ∷ [])

-- n bytes, each one more than the one before
abbrev pub upward : ℕ → ℕ → List ℕ
upward from zero = []
upward from (suc n) = from ∷ upward (from + 1) n

-- ---- the history

-- 256 bytes, all 7; a format forgets the book before it
abbrev pub blank : After
blank = record { image = replicate 256 7; book = some end }

abbrev pub calls : List Call
calls =
    format 2
    ∷ make heel (new.file 32)
    ∷ write heel 28 (upward 1 4)
    ∷ make a (new.directory 1)
    ∷ make b (new.file 40)
    ∷ make c (new.file 0)
    ∷ set_length heel 30
    ∷ []

-- the numbers that calls answer, one after the other
unfoldable pub answers : List ℕ → List Call → List ℕ
answers s [] = []
answers s (x ∷ xs) = number_of (step s x).refusal ∷ answers (step s x).image xs

unfoldable pub early : After
early = history blank calls

unfoldable pub removed : After
removed = history early (remove heel ∷ [])

-- now /b has the slot that /heel had
unfoldable pub late : After
late = history removed (make b (new.file 40) ∷ [])

-- ---- a moment: the book, the tree that the image holds, its objects, a listing lent five lines, and how often each of the 16 units is owned

pub record Moment : Type 0 where
  pub book : Option Tree
  pub tree : Tree
  pub objects : List Entry
  pub listed : Listed
  pub owned_times : List ℕ

abbrev pub line : ℕ → ℕ → ℕ → ℕ → Kind → Line
line ref parent name depth kind = record { ref = ref; parent = parent; name = name; depth = depth; kind = kind }

-- as it is lent
abbrev pub unused : Line
unused = line 7 7 7 7 (file 7 7)

unfoldable pub moment : After → Moment
moment x =
    let s = x.image in
    record {
      book = x.book;
      tree = tree_of s;
      objects = entries (tree_of s);
      listed = list s (replicate 5 unused);
      owned_times = map (λ u. owned u (owners s (lines_of s))) (upward 0 16);
    }

-- the book is the image's tree, with these objects; a line for each, and those that are left are as they were lent; every unit is owned once
abbrev pub agreed : Tree → List Entry → List Line → Moment
agreed t es ls = record {
  book = some t;
  tree = t;
  objects = es;
  listed = record { refusal = Accepted; count = length es; lines = ls ++ replicate (5 - length es) unused };
  owned_times = replicate 16 1;
}

-- ---- what the moments hold

abbrev pub entry : List ℕ → List ℕ → List ℕ → ℕ → Kind → List ℕ → Entry
entry path name above depth kind bytes = record { path = path; name = name; above = above; depth = depth; kind = kind; bytes = bytes }

-- at each, the second slot has /a with /a/c in it
abbrev pub second : Tree
second = dir_slot (0x61 ∷ []) (file_slot (0x63 ∷ []) 0 [] end) end

abbrev pub second_entries : List Entry
second_entries = entry a (0x61 ∷ []) root 1 (directory 1 1) [] ∷ entry c (0x63 ∷ []) a 2 (file 0 0) [] ∷ []

abbrev pub second_lines : List Line
second_lines = line 10 2 12 1 (directory 1 1) ∷ line 13 10 15 2 (file 0 0) ∷ []

-- the first has /heel, with 28 zeros and two bytes; then it is empty; then it has /b, without bytes
abbrev pub early_moment : Moment
early_moment =
    agreed (file_slot (0x68 ∷ 0x65 ∷ 0x65 ∷ 0x6c ∷ []) 32 (zeroed 28 ++ upward 1 2) second)
    (entry root [] root 0 (directory 2 2) [] ∷ entry heel (0x68 ∷ 0x65 ∷ 0x65 ∷ 0x6c ∷ []) root 1 (file 30 32) (zeroed 28 ++ upward 1 2) ∷ second_entries)
    (line 2 2 0 0 (directory 2 2) ∷ line 5 2 9 1 (file 30 32) ∷ second_lines)

abbrev pub removed_moment : Moment
removed_moment =
    agreed (empty second) (entry root [] root 0 (directory 1 2) [] ∷ second_entries) (line 2 2 0 0 (directory 1 2) ∷ second_lines)

abbrev pub late_moment : Moment
late_moment =
    agreed (file_slot (0x62 ∷ []) 40 [] second)
    (entry root [] root 0 (directory 2 2) [] ∷ entry b (0x62 ∷ []) root 1 (file 0 40) [] ∷ second_entries)
    (line 2 2 0 0 (directory 2 2) ∷ line 5 2 9 1 (file 0 40) ∷ second_lines)

-- ---- a listing of no bytes: rule 1 is broken, and nothing is told

abbrev pub nothing_listed : Listed
nothing_listed = record { refusal = Broken 21 (record { 0 = 0 }); count = 0; lines = unused ∷ [] }

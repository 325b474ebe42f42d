-- Demand 3: what is shown after every history.
use Rattle.std.specs.Prelude.{ℕ, zero, suc, ◌+◌, ◌*◌, ◌-◌, ◌≤◌, ◌<◌, ◌≡◌, true, ◌&&◌, cond, eqb, leb, ltb, length, take, drop, get_or}
use mathlib.Core.List.{List, [], ◌∷◌, ◌++◌, Memᴰ}
use Rattle.std.proofs.Math.Option.{some}
use Rattle.storage.specs.Bytes.{u64_at}
use Rattle.alloc.specs.Block.{units_for, size_at}
use Rattle.alloc.specs.Tiling.{within}
use Rattle.tree.specs.Fields.{is_name}
use Rattle.tree.specs.Verdict.{well_formed}
use Rattle.calls.specs.declared.refusal.Reason.TheVariants.{OutOfBounds, PastEnd, TooFewLines}
use Rattle.calls.specs.Refusal.{Accepted, For, accepted}
use Rattle.calls.specs.Reading.{block_in, Kind, file, directory, find, read, copied, Point, no_point, read_point}
use Rattle.changes.specs.Changing as changing
use Rattle.history.specs.Listing.{Line, list}
use Rattle.history.specs.Book.{Tree, end, empty, file_slot, dir_slot, empty_slots}
use Rattle.history.specs.History.{Call, After, history}
use Rattle.history.specs.TreeOf.{tree_of}

-- ---- the book's objects

-- an object of the book: its path, its name (none for the root), its directory's path, its depth, its kind and numbers, its bytes
pub record Entry : Type 0 where
  pub path : List ℕ
  pub name : List ℕ
  pub above : List ℕ
  pub depth : ℕ
  pub kind : Kind
  pub bytes : List ℕ

-- taken slots, and slots in all
unfoldable pub taken_in : Tree → ℕ
taken_in end = 0
taken_in (empty t) = taken_in t
taken_in (file_slot v n x t) = suc (taken_in t)
taken_in (dir_slot v c t) = suc (taken_in t)

unfoldable pub slots_in : Tree → ℕ
slots_in end = 0
slots_in (empty t) = suc (slots_in t)
slots_in (file_slot v n x t) = suc (slots_in t)
slots_in (dir_slot v c t) = suc (slots_in t)

abbrev pub slash : List ℕ
slash = 0x2f ∷ []

-- the objects in a row of slots, in List's order: here is their directory's path with a slash behind it, above that path as find takes it
unfoldable pub entries_in : Tree → List ℕ → List ℕ → ℕ → List Entry
entries_in end here above d = []
entries_in (empty t) here above d = entries_in t here above d
entries_in (file_slot v n x t) here above d =
    record { path = here ++ v; name = v; above = above; depth = d; kind = file (length x) n; bytes = x } ∷ entries_in t here above d
entries_in (dir_slot v c t) here above d =
    record { path = here ++ v; name = v; above = above; depth = d; kind = directory (taken_in c) (slots_in c); bytes = [] }
    ∷ (entries_in c (here ++ (v ++ slash)) (here ++ v) (suc d) ++ entries_in t here above d)

-- all objects, the root first
unfoldable pub entries : Tree → List Entry
entries t =
    record { path = slash; name = []; above = slash; depth = 0; kind = directory (taken_in t) (slots_in t); bytes = [] }
    ∷ entries_in t slash slash 1

-- ---- a listing's line and the book's object

pub record Shows (s : List ℕ) (l : Line) (e : Entry) : Type 0 where
  pub depth : l.depth ≡ e.depth
  pub kind : l.kind ≡ e.kind
  -- the refs that find gives for the object's path and for its directory's
  pub found : (find s e.path).refusal ≡ Accepted
  pub ref : (find s e.path).at ≡ l.ref
  pub parent : (find s e.above).at ≡ l.parent
  -- the name block at the name ref holds the name; the root has none
  pub top : e.name ≡ [] → l.name ≡ 0
  pub name : (e.name ≡ [] → ⊥) → (is_name (block_in s l.name) ≡ true) × ((block_in s l.name).body ≡ e.name)

-- two lists, one by one
pub data Each {A B : Type 0} (R : A → B → Type 0) : List A → List B → Type 0 where
  neither : Each R [] []
  both : {a : A} {b : B} {xs : List A} {ys : List B} → R a b → Each R xs ys → Each R (a ∷ xs) (b ∷ ys)

-- ---- read point on the book's bytes

abbrev pub point_on : List ℕ → ℕ → Point
point_on x n =
    cond (within 1 4096 n)
    (cond (leb (16 * n) (length x)) (record { refusal = Accepted; bytes = take 16 (drop (16 * (n - 1)) x) }) (no_point (For PastEnd)))
    (no_point (For OutOfBounds))

-- ---- units and who owns them

-- the units of a block
pub record Owner : Type 0 where
  pub ref : ℕ
  pub count : ℕ

abbrev pub owner_at : List ℕ → ℕ → Owner
owner_at s r = record { ref = r; count = units_for (size_at s r) }

-- how many of these own unit u
unfoldable pub owned : ℕ → List Owner → ℕ
owned u [] = 0
owned u (o ∷ os) = cond (leb o.ref u && ltb u (o.ref + o.count)) 1 0 + owned u os

-- the free chain, from a ref on; the first number bounds its length
unfoldable pub chain_from : List ℕ → ℕ → ℕ → List Owner
chain_from s zero r = []
chain_from s (suc k) zero = []
chain_from s (suc k) (suc r) = owner_at s (suc r) ∷ chain_from s k (u64_at s (16 * suc r + 8))

-- each line's object and, but for the root, its name
unfoldable pub line_owners : List ℕ → List Line → List Owner
line_owners s [] = []
line_owners s (l ∷ ls) = owner_at s l.ref ∷ (cond (eqb l.name 0) [] (owner_at s l.name ∷ []) ++ line_owners s ls)

-- the superblock, the lines' and the free chain's from the image's own first free ref on
unfoldable pub owners : List ℕ → List Line → List Owner
owners s ls = owner_at s 0 ∷ (line_owners s ls ++ chain_from s (length s) (u64_at s 16))

-- ---- the claim, of an image and the book

pub record Claim (s : List ℕ) (t : Tree) : Type 0 where
  -- a listing lent enough lines is accepted, its count is the number of the book's objects, and its lines are these in order and nothing else
  pub listed : (lent : List Line) → length (entries t) ≤ length lent → (list s lent).refusal ≡ Accepted
  pub counted : (lent : List Line) → (list s lent).count ≡ length (entries t)
  pub shown : (lent : List Line) → length (entries t) ≤ length lent → Each (Shows s) (take (length (entries t)) (list s lent).lines) (entries t)
  -- one lent too few is refused
  pub short : (lent : List Line) → length lent < length (entries t) → (list s lent).refusal ≡ For TooFewLines
  -- read, from every position with every buffer, and read point, for every number, answer by their rules on the book's bytes
  pub bytes : (e : Entry) → Memᴰ e (entries t) → (n m : ℕ) → e.kind ≡ file n m → (position : ℕ) (buffer : List ℕ)
      → read s e.path position buffer ≡ copied buffer (take (length buffer) (drop position e.bytes))
  pub points : (e : Entry) → Memᴰ e (entries t) → (n m : ℕ) → e.kind ≡ file n m → (number : ℕ) → read_point s e.path number ≡ point_on e.bytes number
  -- every unit of the image has exactly one owner
  pub units : (lent : List Line) → length (entries t) ≤ length lent → (u : ℕ) → 16 * u < length s
      → owned u (owners s (take (length (entries t)) (list s lent).lines)) ≡ 1

-- ---- demand 3

-- after a history from the image s: the image is well formed and as long as before, the book is its tree, and the claim holds
pub record Follows (s : List ℕ) (a : After) : Type 0 where
  pub formed : well_formed a.image ≡ true
  pub long : length a.image ≡ length s
  pub book : a.book ≡ some (tree_of a.image)
  pub claim : Claim a.image (tree_of a.image)

-- bytes: every number is below 256
abbrev pub Bytes : List ℕ → Type 0
Bytes s = (i : ℕ) → get_or s i 0 < 256

-- every history from any well-formed image, with its tree as the book
unfoldable pub EveryHistory : Type 0
EveryHistory =
    (s : List ℕ) → Bytes s → well_formed s ≡ true → (cs : List Call) → Follows s (history (record { image = s; book = some (tree_of s) }) cs)

-- every history from an accepted format, of bytes of any length and contents
unfoldable pub FromFormat : Type 0
FromFormat =
    (s : List ℕ) (k : ℕ) → accepted (changing.format s k).refusal ≡ true → (cs : List Call)
    → Follows s (history (record { image = (changing.format s k).image; book = some (empty_slots k) }) cs)

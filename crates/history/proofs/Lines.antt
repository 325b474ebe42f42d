-- The listing is the tree's rows.
use Prim.Native.Nat.{◌≤◌, suc, zero, ℕ}
use mathlib.Core.Bool.{true}
use mathlib.Core.List.{List, [], ◌++◌, ◌∷◌}
use mathlib.Core.Path.{◌≡◌, ap, refl}
use native.Mathlib.Omega.{arith}
use Rattle.calls.proofs.Contents.{file_no_dir}
use Rattle.storage.specs.Bytes.{be32, be64, u32_at, u64_at, zeroed}
use Rattle.alloc.specs.Block.{Block, SFde, SFre}
use Rattle.alloc.specs.Volume.{Objects, block_at}
use Rattle.tree.specs.Fields.{Slot, is_file, slots, slots_from, taken_count}
use Rattle.calls.specs.Reading as kinds
use Rattle.tree.proofs.Indexed.{slots-other}
use Rattle.history.specs.Listing.{Line, line_of, object_lines, slot_lines}
use Rattle.history.specs.Bench.{line}
use Rattle.history.proofs.Nodes.{Among, DirNode, Node, Rep, Stands, dir, empty, end, file, height, slots_of}
use Rattle.history.proofs.Sums.{times}
use Rattle.history.proofs.Walks.{among_top, file-there, of_dir, rest_of, root-there, row_of_lem, taken_some}

-- ---- the lines of a small tree, computed: a directory with a file, an empty slot, and a directory that holds a file

abbrev slot_bytes : List Slot → List ℕ
slot_bytes [] = []
slot_bytes (s ∷ ss) = be64 s.0 ++ (be64 s.1 ++ slot_bytes ss)

abbrev folder : ℕ → List Slot → Block
folder parent ss = record { magic = SFde; body = be64 parent ++ slot_bytes ss }

abbrev bare : Block
bare = record { magic = SFre; body = zeroed 16 }

abbrev small : Objects
small = (2, folder 2 ((9, 5) ∷ (0, 0) ∷ (12, 10) ∷ [])) ∷ (5, bare) ∷ (10, folder 2 ((15, 13) ∷ [])) ∷ (13, bare) ∷ []

small-lines : object_lines 16 small 2 2 0 0
    ≡ line 2 2 0 0 (kinds.directory 2 3) ∷ line 5 2 9 1 (kinds.file 0 0) ∷ line 10 2 12 1 (kinds.directory 1 1) ∷ line 13 10 15 2 (kinds.file 0 0) ∷ []
unfolding be32 be64 u32_at u64_at block_at slots_from slots taken_count line_of slot_lines object_lines
small-lines = refl

-- ---- in general

-- a row's lines: up is the directory, d the depth of its objects
abbrev pub row_lines : ℕ → ℕ → Node → List Line
row_lines up d end = []
row_lines up d (empty t) = row_lines up d t
row_lines up d (file n r a b t) = line_of r up n d b ∷ row_lines up d t
row_lines up d (dir n r a b c t) = line_of r up n d b ∷ (row_lines r (suc d) c ++ row_lines up d t)

-- a row of height 0 has no lines
low-row : (up d : ℕ) (c : Node) → height c ≤ 0 → row_lines up d c ≡ []
low-row up d end h = refl
low-row up d (empty t) h = low-row up d t h
low-row up d (file n r a b t) h = absurd (omega arith)
low-row up d (dir n r a b c t) h = absurd (omega arith)

-- the lines of an object: its own, and with a level more those of its slots
lines_none : (os : Objects) (r up n d : ℕ) → object_lines 0 os r up n d ≡ line_of r up n d (block_at os r) ∷ []
unfolding object_lines
lines_none os r up n d = refl

lines_more : (k : ℕ) (os : Objects) (r up n d : ℕ)
    → object_lines (suc k) os r up n d
    ≡ line_of r up n d (block_at os r) ∷ slot_lines (λ m o. object_lines k os o r m (suc d)) (slots (block_at os r))
unfolding object_lines
lines_more k os r up n d = refl

module _ (os : Objects) (once : (r : ℕ) → times r os ≤ 1) where
  -- a file has its own line alone
  file-lines : (k r up n d : ℕ) (b : Block) → block_at os r ≡ b → is_file b ≡ true → object_lines k os r up n d ≡ line_of r up n d b ∷ []
  unfolding slot_lines
  file-lines zero r up n d b e h = rw (lines_none, e)
  file-lines (suc k) r up n d b e h = rw (lines_more, e, slots-other b (file_no_dir b h))

  -- the slots of a row, where k levels are enough for what is below them
  row-lines : (k up d : ℕ)
      → ((r n : ℕ) (b : Block) (c : Node) → block_at os r ≡ b → DirNode r up b c → Stands r c → Among os c → height c ≤ k
      → object_lines k os r up n d ≡ line_of r up n d b ∷ row_lines r (suc d) c)
      → (c : Node) → Stands up c → Among os c → height c ≤ suc k
      → slot_lines (λ m o. object_lines k os o up m d) (slots_of c) ≡ row_lines up d c
  unfolding slot_lines
  row-lines k up d ih end s h l = refl
  row-lines k up d ih (empty t) s h l = row-lines k up d ih t s h l
  row-lines k up d ih (file n r a b t) s h l =
      rw (taken_some n r s.1.some, file-lines k r up n d b (file-there os once n r a b t h) s.1.is_file)
      (ap (λ (x : List Line). line_of r up n d b ∷ x) (row-lines k up d ih t s.3 (rest_of os once n r a b t h) (omega arith)))
  row-lines k up d ih (dir n r a b c t) s h l =
      let h' = of_dir os once n r a b c t h in
      let i = ih r n b c (file-there os once n r a b t h') s.1 s.3 (row_of_lem os once n r a b c t h) (omega arith) in
      rw (taken_some n r s.1.some, i)
      (ap (λ (x : List Line). line_of r up n d b ∷ (row_lines r (suc d) c ++ x))
      (row-lines k up d ih t s.4 (rest_of os once n r a b t h') (omega arith)))

  -- a directory and its row
  object-lines : (k r up n d : ℕ) (b : Block) (c : Node) (up' : ℕ) → block_at os r ≡ b → DirNode r up' b c → Stands r c → Among os c
      → height c ≤ k → object_lines k os r up n d ≡ line_of r up n d b ∷ row_lines r (suc d) c
  object-lines zero r up n d b c up' e t s h l = rw (lines_none, e, low-row r (suc d) c l)
  object-lines (suc k) r up n d b c up' e t s h l =
      rw (lines_more, e, t.slots)
      (ap (λ (x : List Line). line_of r up n d b ∷ x)
      (row-lines k r (suc d) (λ r' n' b' c' e' t'. object-lines k r' r n' (suc d) b' c' r e' t') c s h l))

-- the root and its row
pub root-lines : (os : Objects) (root : ℕ) (b : Block) (c : Node) → Rep os root b c
    → object_lines 16 os root root 0 0 ≡ line_of root root 0 0 b ∷ row_lines root 1 c
root-lines os root b c p =
    object-lines os p.once 16 root root 0 0 b c root (root-there os root b c p) p.top p.row (among_top os root b c p) p.low

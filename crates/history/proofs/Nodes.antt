-- The tree that stands in an image, each object with its refs and blocks. Without those it is the book's tree.
use Prim.Native.Nat.{◌+◌, ◌<◌, ◌≤◌, max, suc, ℕ}
use mathlib.Core.Bool.{Bool, ◌||◌, false, true}
use mathlib.Core.List.{List, [], ◌∷◌}
use mathlib.Core.Path.{◌≡◌}
use lib.ListN.{length}
use Rattle.storage.specs.Bytes.{same, u64_at}
use Rattle.path.specs.Name.{valid_name}
use Rattle.alloc.specs.Block.{Block}
use Rattle.alloc.specs.Volume.{Objects}
use Rattle.tree.specs.Fields.{Slot, content, file_size, is_dir, is_file, is_name, parent, room, slots}
use Rattle.calls.specs.Walk.{Walk, at, blocked, missing}
use Rattle.history.specs.Book.{Tree, dir_slot, file_slot}
use Rattle.history.proofs.Sums.{Item, sum, times}

-- a row of slots: a name's ref and block, an object's ref and block, a directory's own row, the slots after
pub data Node : Type 0 where
  end : Node
  empty : Node → Node
  file : (n r : ℕ) (a b : Block) → Node → Node
  dir : (n r : ℕ) (a b : Block) → Node → Node → Node

abbrev pub book_of : Node → Tree
book_of end = Tree.end
book_of (empty t) = Tree.empty (book_of t)
book_of (file n r a b t) = file_slot a.body (room b) (content b) (book_of t)
book_of (dir n r a b c t) = dir_slot a.body (book_of c) (book_of t)

abbrev pub slots_of : Node → List Slot
slots_of end = []
slots_of (empty t) = (0, 0) ∷ slots_of t
slots_of (file n r a b t) = (n, r) ∷ slots_of t
slots_of (dir n r a b c t) = (n, r) ∷ slots_of t

-- the sum over all blocks of a row, and of the rows below
abbrev pub sum_of : (Item → ℕ) → Node → ℕ
sum_of f end = 0
sum_of f (empty t) = sum_of f t
sum_of f (file n r a b t) = f (n, a) + f (r, b) + sum_of f t
sum_of f (dir n r a b c t) = f (n, a) + f (r, b) + (sum_of f c + sum_of f t)

abbrev pub height : Node → ℕ
height end = 0
height (empty t) = height t
height (file n r a b t) = max 1 (height t)
height (dir n r a b c t) = max (suc (height c)) (height t)

pub record NameNode (n : ℕ) (a : Block) : Type 0 where
  pub some : 0 < n
  pub is_name : is_name a ≡ true
  pub valid : valid_name a.body ≡ true

pub record FileNode (r : ℕ) (b : Block) : Type 0 where
  pub some : 0 < r
  pub is_file : is_file b ≡ true
  pub fits : file_size b ≤ room b
  pub reserved : u64_at b.body 8 ≡ 0
  pub whole : 16 ≤ length b.body

pub record DirNode (r up : ℕ) (b : Block) (c : Node) : Type 0 where
  pub some : 0 < r
  pub is_dir : is_dir b ≡ true
  pub parent : parent b ≡ up
  pub slots : slots b ≡ slots_of c

-- this name is in the row
abbrev pub named : List ℕ → Node → Bool
named w end = false
named w (empty t) = named w t
named w (file n r a b t) = same a.body w || named w t
named w (dir n r a b c t) = same a.body w || named w t

-- a row of the directory up, as its blocks say
abbrev pub Stands : ℕ → Node → Type 0
Stands up end = Unit {0}
Stands up (empty t) = Stands up t
Stands up (file n r a b t) = NameNode n a × FileNode r b × (named a.body t ≡ false) × Stands up t
Stands up (dir n r a b c t) = NameNode n a × DirNode r up b c × (named a.body t ≡ false) × Stands r c × Stands up t

-- the allocated blocks are those of a tree
pub record Rep (os : Objects) (root : ℕ) (b : Block) (c : Node) : Type 0 where
  pub alike : (f : Item → ℕ) → sum f os ≡ f (root, b) + sum_of f c
  pub once : (r : ℕ) → times r os ≤ 1
  pub top : DirNode root root b c
  pub row : Stands root c
  pub low : height c ≤ 16

-- the blocks of a row are among the allocated ones
abbrev pub Among : Objects → Node → Type 0
Among os c = (f : Item → ℕ) → sum_of f c ≤ sum f os

pub data Sought : Type 0 where
  nowhere : Sought
  barred : Sought
  a_file : ℕ → Block → Sought
  a_dir : ℕ → Block → Node → Sought

abbrev pub walk_of : Sought → Walk
walk_of nowhere = missing
walk_of barred = blocked
walk_of (a_file r b) = at r
walk_of (a_dir r b c) = at r

abbrev pub at_file : List (List ℕ) → ℕ → Block → Sought
at_file [] r b = a_file r b
at_file (w ∷ ws) r b = barred

abbrev pub child_at : List ℕ → (ℕ → Block → Sought) → (ℕ → Block → Node → Sought) → Node → Sought
child_at w leaf sub end = nowhere
child_at w leaf sub (empty t) = child_at w leaf sub t
child_at w leaf sub (file n r a b t) = elim (same a.body w) [ true ↦ leaf r b | false ↦ child_at w leaf sub t ]
child_at w leaf sub (dir n r a b c t) = elim (same a.body w) [ true ↦ sub r b c | false ↦ child_at w leaf sub t ]

-- what stands at the end of the components, from the directory r on
abbrev pub seek : List (List ℕ) → ℕ → Block → Node → Sought
seek [] r b c = a_dir r b c
seek (w ∷ ws) r b c = child_at w (at_file ws) (seek ws) c

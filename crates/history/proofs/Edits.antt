-- A change of one directory, deep in a tree and in its book.
use Prim.Native.Nat.{◌+◌, ◌≤◌, max, suc, ℕ}
use mathlib.Core.Bool.{Bool, ◌||◌, false, true}
use mathlib.Core.List.{List, [], ◌∷◌}
use mathlib.Core.Option.{Option, some}
use mathlib.Core.Path.{◌∙◌, ◌≡◌, ap, refl, sym}
use native.Mathlib.Omega.{arith}
use lib.ListN.{length}
use Rattle.storage.specs.Bytes.{same}
use Rattle.alloc.specs.Block.{Block}
use Rattle.alloc.specs.Volume.{Objects}
use Rattle.tree.specs.Fields.{Slot, content, room}
use Rattle.history.specs.Book.{Tree, dir_slot, file_slot, in_child, in_directory, keep}
use Rattle.history.proofs.Nodes.{DirNode, Node, Rep, Sought, Stands, a_dir, at_file, book_of, child_at, dir, empty, end, file, height, named, seek, slots_of, sum_of}
use Rattle.history.proofs.Sums.{Item, sum, times}

-- a directory for another at the same ref; f makes the same change in the book
pub record Exchange (d : ℕ) (bd : Block) (cd : Node) (f : Tree → Option Tree) : Type 0 where
  pub block : Block
  pub row : Node
  pub stands : (up : ℕ) → DirNode d up bd cd → DirNode d up block row
  pub row-stands : Stands d row
  pub book : f (book_of cd) ≡ some (book_of row)

-- the tree of objects, and its book
pub record Edited (os : Objects) (root : ℕ) (t : Option Tree) : Type 0 where
  pub block : Block
  pub node : Node
  pub rep : Rep os root block node
  pub book : t ≡ some (book_of node)

-- a file is no directory
no_file : (ws : List (List ℕ)) (r d : ℕ) (b bd : Block) (cd : Node) → at_file ws r b ≡ a_dir d bd cd → ⊥
no_file [] r d b bd cd e = let z : ◌≡◌ {A = ℕ} 0 1 = cc in omega arith
no_file (w ∷ ws) r d b bd cd e = let z : ◌≡◌ {A = ℕ} 0 1 = cc in omega arith

module _ {d : ℕ} {bd : Block} {cd : Node} {f : Tree → Option Tree} (x : Exchange d bd cd f) where
  abbrev before : (Item → ℕ) → ℕ
  before h = h (d, bd) + sum_of h cd

  abbrev now : (Item → ℕ) → ℕ
  now h = h (d, x.block) + sum_of h x.row

  -- the row c after it, where it lies below the slot w
  record RowEdit (w : List ℕ) (ws : List (List ℕ)) (up : ℕ) (c : Node) : Type 0 where
    row : Node
    slots : slots_of row ≡ slots_of c
    names : (v : List ℕ) → named v row ≡ named v c
    stands : Stands up row
    sums : (h : Item → ℕ) → sum_of h row + before h ≡ sum_of h c + now h
    low : height row ≤ max (height c) (suc (length ws) + height x.row)
    book : in_child w (in_directory ws f) (book_of c) ≡ some (book_of row)

  -- the directory r with row c after it, where components lead to it
  record Edit (ws : List (List ℕ)) (r up : ℕ) (b : Block) (c : Node) : Type 0 where
    block : Block
    row : Node
    stands : DirNode r up block row
    row-stands : Stands r row
    sums : (h : Item → ℕ) → h (r, block) + sum_of h row + before h ≡ h (r, b) + sum_of h c + now h
    low : height row ≤ max (height c) (length ws + height x.row)
    book : in_directory ws f (book_of c) ≡ some (book_of row)

  -- in a row, below the slot that the first component names
  edit_child : (w : List ℕ) (ws : List (List ℕ))
      → ((r up : ℕ) (b : Block) (c : Node) → seek ws r b c ≡ a_dir d bd cd → DirNode r up b c → Stands r c → Edit ws r up b c)
      → (up : ℕ) (c : Node) → child_at w (at_file ws) (seek ws) c ≡ a_dir d bd cd → Stands up c → RowEdit w ws up c
  unfolding in_child
  edit_child w ws ih up end e s = let z : ◌≡◌ {A = ℕ} 0 1 = cc in absurd (omega arith)
  edit_child w ws ih up (empty t) e s =
      let k = edit_child w ws ih up t e s in
      record {
        row = empty k.row;
        slots = ap (λ (l : List Slot). (0, 0) ∷ l) k.slots;
        names = k.names;
        stands = k.stands;
        sums = k.sums;
        low = k.low;
        book = ap (keep Tree.empty) k.book;
      }
  edit_child w ws ih up (file n r a b t) e s = go (same a.body w) e (λ e'. edit_child w ws ih up t e' s.3)
    where
      go : (q : Bool) → ◌≡◌ {A = Sought} (elim q [ true ↦ at_file ws r b | false ↦ child_at w (at_file ws) (seek ws) t ]) (a_dir d bd cd)
          → (child_at w (at_file ws) (seek ws) t ≡ a_dir d bd cd → RowEdit w ws up t) → RowEdit w ws up (file n r a b t)
      go true e' g = absurd (no_file ws r d b bd cd e')
      go false e' g =
          let k = g e' in
          record {
            row = file n r a b k.row;
            slots = ap (λ (l : List Slot). (n, r) ∷ l) k.slots;
            names = λ v. ap (λ (q : Bool). same a.body v || q) (k.names v);
            stands = (s.0, s.1, k.names a.body ∙ s.2, k.stands);
            sums = λ h. omega (arith, k.sums h);
            low = omega (arith, k.low);
            book = ap (keep (file_slot a.body (room b) (content b))) k.book;
          }
  edit_child w ws ih up (dir n r a b c t) e s = go (same a.body w) refl e (λ e'. edit_child w ws ih up t e' s.4)
    where
      go : (q : Bool) → same a.body w ≡ q → ◌≡◌ {A = Sought} (elim q [ true ↦ seek ws r b c | false ↦ child_at w (at_file ws) (seek ws) t ]) (a_dir d bd cd)
          → (child_at w (at_file ws) (seek ws) t ≡ a_dir d bd cd → RowEdit w ws up t) → RowEdit w ws up (dir n r a b c t)
      go true i e' g =
          let k = ih r up b c e' s.1 s.3 in
          record {
            row = dir n r a k.block k.row t;
            slots = refl;
            names = λ v. refl;
            stands = (s.0, k.stands, s.2, k.row-stands, s.4);
            sums = λ h. omega (arith, k.sums h);
            low = omega (arith, k.low);
            book = rw (in_child, i) (ap (keep (λ y. dir_slot a.body y (book_of t))) k.book);
          }
      go false i e' g =
          let k = g e' in
          record {
            row = dir n r a b c k.row;
            slots = ap (λ (l : List Slot). (n, r) ∷ l) k.slots;
            names = λ v. ap (λ (q : Bool). same a.body v || q) (k.names v);
            stands = (s.0, s.1, k.names a.body ∙ s.2, s.3, k.stands);
            sums = λ h. omega (arith, k.sums h);
            low = omega (arith, k.low);
            book = rw (in_child, i) (ap (keep (dir_slot a.body (book_of c))) k.book);
          }

  -- along the components
  edit : (ws : List (List ℕ)) (r up : ℕ) (b : Block) (c : Node) → seek ws r b c ≡ a_dir d bd cd → DirNode r up b c → Stands r c → Edit ws r up b c
  unfolding in_directory
  edit [] r up b c e g s =
      let p : r ≡ d = cc in
      let q : b ≡ bd = cc in
      let i : c ≡ cd = cc in
      record {
        block = x.block;
        row = x.row;
        stands = rw p (x.stands up (rw (p, q, i) at g));
        row-stands = rw p x.row-stands;
        sums = λ h. rw (p, q, i) (omega arith);
        low = omega arith;
        book = rw i x.book;
      }
  edit (w ∷ ws) r up b c e g s =
      let k = edit_child w ws (edit ws) r c e s in
      record {
        block = b;
        row = k.row;
        stands = record { some = g.some; is_dir = g.is_dir; parent = g.parent; slots = g.slots ∙ sym k.slots };
        row-stands = k.stands;
        sums = λ h. omega (arith, k.sums h);
        low = k.low;
        book = k.book;
      }

  -- other objects, whose sums tell of the exchange
  pub edited : {os os' : Objects} {root : ℕ} {rb : Block} {top : Node} → Rep os root rb top → (ws : List (List ℕ)) → seek ws root rb top ≡ a_dir d bd cd
      → ((h : Item → ℕ) → sum h os' + before h ≡ sum h os + now h) → ((r : ℕ) → times r os' ≤ 1) → length ws + height x.row ≤ 16
      → Edited os' root (in_directory ws f (book_of top))
  edited {os} {os'} {root} {rb} {top} p ws e sums once low =
      let k = edit ws root root rb top e p.top p.row in
      record {
        block = k.block;
        node = k.row;
        rep = record {
          alike = λ h. omega (arith, sums h, p.alike h, k.sums h);
          once = once;
          top = k.stands;
          row = k.row-stands;
          low = omega (arith, k.low, p.low);
        };
        book = k.book;
      }

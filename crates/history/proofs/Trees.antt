-- Every well-formed image holds one tree, and tree_of is its book.
use Prim.Native.Nat.{◌≤◌, suc, zero, ℕ}
use mathlib.Core.Bool.{Bool, false, true}
use mathlib.Core.List.{List, [], ◌∷◌}
use mathlib.Core.Path.{◌∙◌, ◌≡◌, ap, refl, sym}
use native.Mathlib.Omega.{arith}
use lib.ListN.{length}
use Rattle.calls.proofs.Contents.{file_no_dir}
use Rattle.storage.proofs.Numbers.{AllBytes}
use Rattle.alloc.specs.Block.{Block}
use Rattle.alloc.specs.Volume.{Objects, block_at, objects, volume_of}
use Rattle.tree.specs.Fields.{Slot, content, is_dir, room, slots, taken}
use Rattle.tree.specs.Verdict.{well_formed}
use Rattle.tree.proofs.Formed.{formed-file, formed-sound}
use Rattle.tree.proofs.Namings.{Rises, objects_rise}
use Rattle.tree.proofs.Verdicts.{kept, well_formed_means}
use Rattle.history.specs.Book.{Tree, dir_slot, file_slot}
use Rattle.history.specs.TreeOf.{tree_at, tree_of, tree_row}
use Rattle.history.proofs.Good.{Good}
use Rattle.history.proofs.Levels.{row-at, row_dir, row-empty, row-end, row-file, row_at, row_of, tree-stands}
use Rattle.history.proofs.Nodes.{Among, Node, Rep, Stands, book_of, dir, empty, end, file, height, slots_of}
use Rattle.history.proofs.Sums.{times}
use Rattle.history.proofs.Walks.{among_top, file-there, name-there, of_dir, rest_of, root-there, row_of_lem, taken_some}

-- ---- the book of a row that is read off

book-row : (os : Objects) (sub : ℕ → Node) (tub : ℕ → Tree) → ((r : ℕ) → book_of (sub r) ≡ tub r) → (ss : List Slot)
    → book_of (row_of os sub ss) ≡ tree_row os tub ss
unfolding row_of tree_row
book-row os sub tub h [] = refl
book-row os sub tub h (s ∷ ss) = go (taken s) (is_dir (block_at os s.1)) (book-row os sub tub h ss)
  where
    go : (p q : Bool) → book_of (row_of os sub ss) ≡ tree_row os tub ss
        → book_of (elim p as (λ _. Node) [
          | false ↦ empty (row_of os sub ss)
          | true ↦ elim q as (λ _. Node) [
            | false ↦ file s.0 s.1 (block_at os s.0) (block_at os s.1) (row_of os sub ss)
            | true ↦ dir s.0 s.1 (block_at os s.0) (block_at os s.1) (sub s.1) (row_of os sub ss)
          ]
        ])
        ≡ elim p as (λ _. Tree) [
          | false ↦ Tree.empty (tree_row os tub ss)
          | true ↦ elim q as (λ _. Tree) [
            | false ↦ file_slot (block_at os s.0).body (room (block_at os s.1)) (content (block_at os s.1)) (tree_row os tub ss)
            | true ↦ dir_slot (block_at os s.0).body (tub s.1) (tree_row os tub ss)
          ]
        ]
    go false q e = ap Tree.empty e
    go true false e = rw e
    go true true e = rw (e, h s.1)

book-at : (os : Objects) (k r : ℕ) → book_of (row_at os k r) ≡ tree_at os k r
unfolding row_at tree_at
book-at os zero r = refl
book-at os (suc k) r = book-row os (row_at os k) (tree_at os k) (book-at os k) (slots (block_at os r))

book_of_lem : (s : List ℕ) → book_of (row_at (objects (volume_of s)) 17 (volume_of s).root) ≡ tree_of s
unfolding tree_of
book_of_lem s = book-at (objects (volume_of s)) 17 (volume_of s).root

-- ---- a well-formed image holds its tree

rises : (s : List ℕ) → Rises 2 (objects (volume_of s))
unfolding objects
rises s = objects_rise 2 (volume_of s).extents

pub good : (s : List ℕ) → AllBytes s → well_formed s ≡ true → Good (length s) s (tree_of s)
good s h e =
    let w = well_formed_means s h e in
    let os = objects (volume_of s) in
    let root = (volume_of s).root in
    record {
      sound = formed-sound s h e;
      long = refl;
      block = block_at os root;
      node = row_at os 17 root;
      rep = tree-stands os root (rises s) w.rule_2 (kept w) (λ r f. (formed-file s h e r f).1);
      book = book_of_lem s;
    }

-- ---- and no other

module _ (os : Objects) (once : (r : ℕ) → times r os ≤ 1) where
  -- a row is what is read off from its slots, with levels enough
  row_again : (k up : ℕ) (c : Node) → Stands up c → Among os c → height c ≤ k → row_of os (row_at os k) (slots_of c) ≡ c
  row_again k up end s h l = row-end os (row_at os k)
  row_again k up (empty t) s h l = row-empty os (row_at os k) (0, 0) (slots_of t) refl ∙ ap empty (row_again k up t s h l)
  row_again k up (file n r a b t) s h l =
      let e = file-there os once n r a b t h in
      row-file os (row_at os k) (n, r) (slots_of t) (taken_some n r s.1.some) (rw e (file_no_dir b s.1.is_file))
      ∙ rw (e, name-there os once n r a b t h, row_again k up t s.3 (rest_of os once n r a b t h) (omega arith))
  row_again zero up (dir n r a b c t) s h l = absurd (omega arith)
  row_again (suc k) up (dir n r a b c t) s h l =
      let i = of_dir os once n r a b c t h in
      let e = file-there os once n r a b t i in
      let d : row_at os (suc k) r ≡ c =
      row-at os k r ∙ rw (e, s.1.slots) (row_again k r c s.3 (row_of_lem os once n r a b c t h) (omega arith)) in
      row_dir os (row_at os (suc k)) (n, r) (slots_of t) (taken_some n r s.1.some) (rw e s.1.is_dir)
      ∙ rw (e, name-there os once n r a b t i, d, row_again (suc k) up t s.4 (rest_of os once n r a b t i) (omega arith))

-- the row at the root is the one that is read off
pub one_tree : (os : Objects) (root : ℕ) (b : Block) (c : Node) → Rep os root b c → row_at os 17 root ≡ c
one_tree os root b c p =
    row-at os 16 root
    ∙ rw (root-there os root b c p, p.top.slots) (row_again os p.once 16 root c p.row (among_top os root b c p) p.low)

pub tree_is : (n : ℕ) (s : List ℕ) (t : Tree) → Good n s t → tree_of s ≡ t
tree_is n s t g =
    sym (book_of_lem s) ∙ ap book_of (one_tree (objects (volume_of s)) (volume_of s).root g.block g.node g.rep) ∙ g.book

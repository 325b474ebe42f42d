-- A new object in the lowest empty slot of a row, and of the book.
use Prim.Native.Nat.{◌+◌, ◌<◌, ◌≤◌, max, ℕ}
use mathlib.Core.Bool.{Bool, ◌||◌, false, true}
use mathlib.Core.List.{List, ◌∷◌}
use mathlib.Core.Option.{Option, none, some}
use mathlib.Core.Path.{◌∙◌, ◌≡◌, ap, refl, subst, sym}
use native.Mathlib.Omega.{arith}
use lib.ListN.{length, set}
use Rattle.storage.proofs.Booleans.{or_false}
use Rattle.storage.specs.Bytes.{same}
use Rattle.alloc.specs.Block.{Block}
use Rattle.tree.specs.Fields.{Slot, content, room}
use Rattle.calls.specs.Walk.{onward}
use Rattle.changes.specs.Changing.{New, directory}
use Rattle.history.specs.Book.{added, dir_slot, file_slot, keep}
use Rattle.history.proofs.Choices.{onward_none, onward_some, same-other}
use Rattle.history.proofs.EmptyRow.{empty-book, empty_height, empty_stands, empty-sum, empty_row}
use Rattle.history.proofs.NewBlocks.{NewNode}
use Rattle.history.proofs.Nodes.{NameNode, Node, Stands, book_of, dir, empty, end, file, height, named, slots_of, sum_of}
use Rattle.history.proofs.Sums.{Item}
use Rattle.history.proofs.Walks.{index_empty, index_named}

-- no slot has the name
pub not_named : (w : List ℕ) (c : Node) → index_named w c ≡ none → named w c ≡ false
not_named w end e = refl
not_named w (empty t) e = not_named w t (onward_none (index_named w t) e)
not_named w (file n r a b t) e = go (same a.body w) e (not_named w t)
  where
    go : (q : Bool) → ◌≡◌ {A = Option ℕ} (elim q [ true ↦ some 0 | false ↦ onward (index_named w t) ]) none
        → (index_named w t ≡ none → named w t ≡ false) → (q || named w t) ≡ false
    go true e' k = let z : ◌≡◌ {A = ℕ} 0 1 = cc in absurd (omega arith)
    go false e' k = k (onward_none (index_named w t) e')
not_named w (dir n r a b c t) e = go (same a.body w) e (not_named w t)
  where
    go : (q : Bool) → ◌≡◌ {A = Option ℕ} (elim q [ true ↦ some 0 | false ↦ onward (index_named w t) ]) none
        → (index_named w t ≡ none → named w t ≡ false) → (q || named w t) ≡ false
    go true e' k = let z : ◌≡◌ {A = ℕ} 0 1 = cc in absurd (omega arith)
    go false e' k = k (onward_none (index_named w t) e')

-- ---- the row

module _ (k : New) (up n o : ℕ) (a b : Block) (name : NameNode n a) (new : NewNode k up o b) where
  -- the row c with the new object in slot i
  pub record Put (c : Node) (i : ℕ) : Type 0 where
    pub row : Node
    pub inside : i < length (slots_of c)
    pub slots : slots_of row ≡ set (slots_of c) i (n, o)
    names : (v : List ℕ) → same a.body v ≡ false → named v c ≡ false → named v row ≡ false
    pub stands : Stands up row
    pub sums : (f : Item → ℕ) → sum_of f row ≡ sum_of f c + (f (n, a) + f (o, b))
    pub low : height row ≤ max 1 (height c)
    pub book : added a.body k (book_of c) ≡ some (book_of row)

  -- in the first slot
  put_first : (t : Node) → named a.body t ≡ false → Stands up t → Put (empty t) 0
  unfolding added
  put_first t l s = go k new refl
    where
      go : (j : New) → NewNode j up o b → k ≡ j → Put (empty t) 0
      go (directory m) h e = record {
        row = dir n o a b (empty_row m) t;
        inside = omega arith;
        slots = refl;
        names = λ v p q. rw (p, q);
        stands = (name, h, l, empty_stands o m, s);
        sums = λ f. omega (arith, empty-sum f m);
        low = omega (arith, empty_height m);
        book = rw (e, empty-book m);
      }
      go (New.file m) h e = record {
        row = file n o a b t;
        inside = omega arith;
        slots = refl;
        names = λ v p q. rw (p, q);
        stands = (name, h.0, l, s);
        sums = λ f. omega arith;
        low = omega arith;
        book = rw (e, h.1, h.2);
      }

  -- in the lowest empty slot, where no slot has its name
  pub put : (c : Node) (i : ℕ) → index_empty c ≡ some i → named a.body c ≡ false → Stands up c → Put c i
  unfolding added
  put end i e l s = let z : ◌≡◌ {A = ℕ} 0 1 = cc in absurd (omega arith)
  put (empty t) i e l s = let z : 0 ≡ i = cc in subst (Put (empty t)) z (put_first t l s)
  put (file m r x y t) i e l s =
      let j = onward_some (index_empty t) i e in
      let p = or_false (same x.body a.body) (named a.body t) l in
      let g = put t j.0 j.1 p.1 s.3 in
      record {
        row = file m r x y g.row;
        inside = omega (arith, g.inside, j.2);
        slots = ap (λ (l : List Slot). (m, r) ∷ l) g.slots ∙ ap (λ (u : ℕ). set ((m, r) ∷ slots_of t) u (n, o)) (sym j.2);
        names = λ v p q. let u = or_false (same x.body v) (named v t) q in rw u.0 (g.names v p u.1);
        stands = (s.0, s.1, g.names x.body (same-other x.body a.body p.0) s.2, g.stands);
        sums = λ f. omega (arith, g.sums f);
        low = omega (arith, g.low);
        book = ap (keep (file_slot x.body (room y) (content y))) g.book;
      }
  put (dir m r x y c t) i e l s =
      let j = onward_some (index_empty t) i e in
      let p = or_false (same x.body a.body) (named a.body t) l in
      let g = put t j.0 j.1 p.1 s.4 in
      record {
        row = dir m r x y c g.row;
        inside = omega (arith, g.inside, j.2);
        slots = ap (λ (l : List Slot). (m, r) ∷ l) g.slots ∙ ap (λ (u : ℕ). set ((m, r) ∷ slots_of t) u (n, o)) (sym j.2);
        names = λ v p q. let u = or_false (same x.body v) (named v t) q in rw u.0 (g.names v p u.1);
        stands = (s.0, s.1, g.names x.body (same-other x.body a.body p.0) s.2, s.3, g.stands);
        sums = λ f. omega (arith, g.sums f);
        low = omega (arith, g.low);
        book = ap (keep (dir_slot x.body (book_of c))) g.book;
      }

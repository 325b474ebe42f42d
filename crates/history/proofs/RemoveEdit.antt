-- The slot with a name, emptied, in a row and in the book; and what the slot held.
use Prim.Native.Nat.{◌+◌, ◌<◌, ◌≤◌, suc, ℕ}
use mathlib.Core.Bool.{Bool, false, true}
use mathlib.Core.List.{List, ◌∷◌}
use mathlib.Core.Option.{Option, some}
use mathlib.Core.Path.{◌≡◌, ap, refl, subst, sym}
use native.Mathlib.Omega.{arith}
use lib.ListN.{get_or, length, set}
use Rattle.calls.proofs.Contents.{file_no_dir}
use Rattle.storage.proofs.Booleans.{or_false}
use Rattle.storage.specs.Bytes.{same}
use Rattle.alloc.specs.Block.{Block}
use Rattle.tree.specs.Fields.{Slot, content, room, slots, taken_count}
use Rattle.tree.proofs.Formed.{dir_there, file-there}
use Rattle.tree.proofs.Indexed.{slots-other}
use Rattle.calls.specs.Walk.{onward}
use Rattle.history.specs.Book.{Tree, dir_slot, emptied, file_slot, keep}
use Rattle.history.proofs.Choices.{onward_some}
use Rattle.history.proofs.Nodes.{NameNode, Node, Stands, book_of, dir, empty, end, file, height, named, slots_of, sum_of}
use Rattle.history.proofs.Sums.{Item}
use Rattle.history.proofs.Walks.{index_named, taken_some}

-- an object and its name, each a ref and a block, and the row below the object
pub record Held : Type 0 where
  pub name : ℕ
  pub label : Block
  pub ref : ℕ
  pub block : Block
  pub below : Node
  pub named_so : NameNode name label
  pub real : 0 < block.magic
  pub below-slots : slots block ≡ slots_of below
  pub below-stands : Stands ref below

-- the row c without what slot i held by the name w
pub record Out (w : List ℕ) (up : ℕ) (c : Node) (i : ℕ) : Type 0 where
  pub held : Held
  pub slot : get_or (slots_of c) i (0, 0) ≡ (held.name, held.ref)
  pub inside : i < length (slots_of c)
  pub row : Node
  pub slots_are : slots_of row ≡ set (slots_of c) i (0, 0)
  pub names : (v : List ℕ) → named v c ≡ false → named v row ≡ false
  pub stands : Stands up row
  pub sums : (f : Item → ℕ) → sum_of f row + (f (held.name, held.label) + f (held.ref, held.block) + sum_of f held.below) ≡ sum_of f c
  pub low : height row ≤ height c
  pub book : emptied w (book_of c) ≡ some (book_of row)

module _ (w : List ℕ) (up : ℕ) where
  -- behind a slot that is empty, a file's or a directory's with another name
  behind-empty : (t : Node) (j : ℕ) → Out w up t j → Out w up (empty t) (suc j)
  unfolding emptied
  behind-empty t j g = record {
    held = g.held;
    slot = g.slot;
    inside = omega (arith, g.inside);
    row = empty g.row;
    slots_are = ap (λ (l : List Slot). (0, 0) ∷ l) g.slots_are;
    names = g.names;
    stands = g.stands;
    sums = g.sums;
    low = g.low;
    book = ap (keep Tree.empty) g.book;
  }

  behind-file : (n r : ℕ) (a b : Block) (t : Node) (j : ℕ) → same a.body w ≡ false → Stands up (file n r a b t) → Out w up t j → Out w up (file n r a b t) (suc j)
  unfolding emptied
  behind-file n r a b t j q s g = record {
    held = g.held;
    slot = g.slot;
    inside = omega (arith, g.inside);
    row = file n r a b g.row;
    slots_are = ap (λ (l : List Slot). (n, r) ∷ l) g.slots_are;
    names = λ v h. let u = or_false (same a.body v) (named v t) h in rw u.0 (g.names v u.1);
    stands = (s.0, s.1, g.names a.body s.2, g.stands);
    sums = λ f. omega (arith, g.sums f);
    low = omega (arith, g.low);
    book = rw (emptied, q) (ap (keep (file_slot a.body (room b) (content b))) g.book);
  }

  behind_dir : (n r : ℕ) (a b : Block) (c t : Node) (j : ℕ) → same a.body w ≡ false → Stands up (dir n r a b c t) → Out w up t j → Out w up (dir n r a b c t) (suc j)
  unfolding emptied
  behind_dir n r a b c t j q s g = record {
    held = g.held;
    slot = g.slot;
    inside = omega (arith, g.inside);
    row = dir n r a b c g.row;
    slots_are = ap (λ (l : List Slot). (n, r) ∷ l) g.slots_are;
    names = λ v h. let u = or_false (same a.body v) (named v t) h in rw u.0 (g.names v u.1);
    stands = (s.0, s.1, g.names a.body s.2, s.3, g.stands);
    sums = λ f. omega (arith, g.sums f);
    low = omega (arith, g.low);
    book = rw (emptied, q) (ap (keep (dir_slot a.body (book_of c))) g.book);
  }

  -- from the slot with the name
  pub take_out : (c : Node) (i : ℕ) → index_named w c ≡ some i → Stands up c → Out w up c i
  unfolding emptied
  take_out end i e s = let z : ◌≡◌ {A = ℕ} 0 1 = cc in absurd (omega arith)
  take_out (empty t) i e s =
      let j = onward_some (index_named w t) i e in
      subst (Out w up (empty t)) (sym j.2) (behind-empty t j.0 (take_out t j.0 j.1 s))
  take_out (file n r a b t) i e s = go (same a.body w) refl e (λ j k. take_out t j k s.3)
    where
      go : (q : Bool) → same a.body w ≡ q → ◌≡◌ {A = Option ℕ} (elim q [ true ↦ some 0 | false ↦ onward (index_named w t) ]) (some i)
          → ((j : ℕ) → index_named w t ≡ some j → Out w up t j) → Out w up (file n r a b t) i
      go true q e' k = let z : 0 ≡ i = cc in subst (Out w up (file n r a b t)) z (record {
        held = record {
          name = n;
          label = a;
          ref = r;
          block = b;
          below = end;
          named_so = s.0;
          real = file-there b s.1.is_file;
          below-slots = slots-other b (file_no_dir b s.1.is_file);
          below-stands = tt;
        };
        slot = refl;
        inside = omega arith;
        row = empty t;
        slots_are = refl;
        names = λ v h. (or_false (same a.body v) (named v t) h).1;
        stands = s.3;
        sums = λ f. omega arith;
        low = omega arith;
        book = rw (emptied, q);
      })
      go false q e' k =
          let j = onward_some (index_named w t) i e' in
          subst (Out w up (file n r a b t)) (sym j.2) (behind-file n r a b t j.0 q s (k j.0 j.1))
  take_out (dir n r a b c t) i e s = go (same a.body w) refl e (λ j k. take_out t j k s.4)
    where
      go : (q : Bool) → same a.body w ≡ q → ◌≡◌ {A = Option ℕ} (elim q [ true ↦ some 0 | false ↦ onward (index_named w t) ]) (some i)
          → ((j : ℕ) → index_named w t ≡ some j → Out w up t j) → Out w up (dir n r a b c t) i
      go true q e' k = let z : 0 ≡ i = cc in subst (Out w up (dir n r a b c t)) z (record {
        held = record {
          name = n;
          label = a;
          ref = r;
          block = b;
          below = c;
          named_so = s.0;
          real = dir_there b s.1.is_dir;
          below-slots = s.1.slots;
          below-stands = s.3;
        };
        slot = refl;
        inside = omega arith;
        row = empty t;
        slots_are = refl;
        names = λ v h. (or_false (same a.body v) (named v t) h).1;
        stands = s.4;
        sums = λ f. omega arith;
        low = omega arith;
        book = rw (emptied, q);
      })
      go false q e' k =
          let j = onward_some (index_named w t) i e' in
          subst (Out w up (dir n r a b c t)) (sym j.2) (behind_dir n r a b c t j.0 q s (k j.0 j.1))

-- a row in which no slot is taken has no blocks
pub untaken_sum : (f : Item → ℕ) (up : ℕ) (c : Node) → Stands up c → taken_count (slots_of c) ≡ 0 → sum_of f c ≡ 0
unfolding taken_count
untaken_sum f up end s h = refl
untaken_sum f up (empty t) s h = untaken_sum f up t s h
untaken_sum f up (file n r a b t) s h = absurd (omega (arith, rw (taken_some n r s.1.some) at h))
untaken_sum f up (dir n r a b c t) s h = absurd (omega (arith, rw (taken_some n r s.1.some) at h))

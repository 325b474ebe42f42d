-- The block of the file with a name, changed, in a row and in the book.
use Prim.Native.Nat.{◌+◌, max, suc, ℕ}
use mathlib.Core.Bool.{Bool, ◌||◌, false, true}
use mathlib.Core.List.{List, [], ◌∷◌}
use mathlib.Core.Option.{some}
use mathlib.Core.Path.{◌∙◌, ◌≡◌, ap, refl}
use native.Mathlib.Omega.{arith}
use Rattle.storage.specs.Bytes.{same}
use Rattle.alloc.specs.Block.{Block}
use Rattle.tree.specs.Fields.{Slot, content, room}
use Rattle.history.specs.Book.{Tree, changed, dir_slot, file_slot, keep}
use Rattle.history.proofs.Bodies.{Rewritten}
use Rattle.history.proofs.Nodes.{Node, Sought, Stands, a_dir, a_file, at_file, book_of, child_at, dir, empty, end, file, height, named, seek, slots_of, sum_of}
use Rattle.history.proofs.Sums.{Item}

module _ (w : List ℕ) (r : ℕ) (b x : Block) (f : List ℕ → List ℕ) (y : Rewritten r b x f) where
  -- the row c with the block x for the file's block b
  pub record Swapped (up : ℕ) (c : Node) : Type 0 where
    pub row : Node
    pub slots : slots_of row ≡ slots_of c
    names : (v : List ℕ) → named v row ≡ named v c
    pub stands : Stands up row
    pub sums : (g : Item → ℕ) → sum_of g row + g (r, b) ≡ sum_of g c + g (r, x)
    pub low : height row ≡ height c
    pub book : changed w f (book_of c) ≡ some (book_of row)

  -- in the slot with the name
  pub swap : (up : ℕ) (c : Node) → Stands up c → child_at w (at_file []) (seek []) c ≡ a_file r b → Swapped up c
  unfolding changed
  swap up end s e = let z : ◌≡◌ {A = ℕ} 0 1 = cc in absurd (omega arith)
  swap up (empty t) s e =
      let k = swap up t s e in
      record {
        row = empty k.row;
        slots = ap (λ (l : List Slot). (0, 0) ∷ l) k.slots;
        names = k.names;
        stands = k.stands;
        sums = k.sums;
        low = k.low;
        book = ap (keep Tree.empty) k.book;
      }
  swap up (file n o a z t) s e = go (same a.body w) refl e (swap up t s.3)
    where
      go : (q : Bool) → same a.body w ≡ q → ◌≡◌ {A = Sought} (elim q [ true ↦ a_file o z | false ↦ child_at w (at_file []) (seek []) t ]) (a_file r b)
          → (child_at w (at_file []) (seek []) t ≡ a_file r b → Swapped up t) → Swapped up (file n o a z t)
      go true i e' g =
          let u : o ≡ r = cc in
          let v : z ≡ b = cc in
          record {
            row = file n o a x t;
            slots = refl;
            names = λ v. refl;
            stands = (s.0, rw u y.stands, s.2, s.3);
            sums = λ g. rw (u, v) (omega arith);
            low = refl;
            book = rw (changed, i) (rw (v, y.same-room, y.bytes));
          }
      go false i e' g =
          let k = g e' in
          record {
            row = file n o a z k.row;
            slots = ap (λ (l : List Slot). (n, o) ∷ l) k.slots;
            names = λ v. ap (λ (q : Bool). same a.body v || q) (k.names v);
            stands = (s.0, s.1, k.names a.body ∙ s.2, k.stands);
            sums = λ g. omega (arith, k.sums g);
            low = ap (max 1) k.low;
            book = rw (changed, i) (ap (keep (file_slot a.body (room z) (content z))) k.book);
          }
  swap up (dir n o a z c t) s e = go (same a.body w) e (swap up t s.4)
    where
      go : (q : Bool) → ◌≡◌ {A = Sought} (elim q [ true ↦ a_dir o z c | false ↦ child_at w (at_file []) (seek []) t ]) (a_file r b)
          → (child_at w (at_file []) (seek []) t ≡ a_file r b → Swapped up t) → Swapped up (dir n o a z c t)
      go true e' g = let z : ◌≡◌ {A = ℕ} 0 1 = cc in absurd (omega arith)
      go false e' g =
          let k = g e' in
          record {
            row = dir n o a z c k.row;
            slots = ap (λ (l : List Slot). (n, o) ∷ l) k.slots;
            names = λ v. ap (λ (q : Bool). same a.body v || q) (k.names v);
            stands = (s.0, s.1, k.names a.body ∙ s.2, s.3, k.stands);
            sums = λ g. omega (arith, k.sums g);
            low = ap (max (suc (height c))) k.low;
            book = ap (keep (dir_slot a.body (book_of c))) k.book;
          }

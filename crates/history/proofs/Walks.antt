-- What a walk over the blocks finds, in terms of the tree: which block stands at a ref that a node names, which slot of a directory has a
-- name or is empty, and where components lead.
use Prim.Native.Nat.{◌<◌, ◌≤◌, ℕ}
use mathlib.Core.Bool.{Bool, ◌&&◌, false, not, true}
use mathlib.Core.List.{List, [], ◌∷◌}
use mathlib.Core.Option.{Option, none, some}
use mathlib.Core.Path.{◌∙◌, ◌≡◌, ap, refl, sym}
use native.Mathlib.Nat.{zero-add}
use native.Mathlib.Omega.{arith}
use lib.ListN.{get_or, length}
use borrow.Author.Tests.{ne_eqb}
use Rattle.calls.proofs.Contents.{file_no_dir}
use Rattle.storage.specs.Bytes.{same}
use Rattle.alloc.specs.Block.{Block}
use Rattle.alloc.specs.Volume.{Objects, block_at}
use Rattle.tree.specs.Fields.{Slot, is_dir, is_file, slot_at, slots, taken, total}
use Rattle.tree.proofs.Indexed.{length-slots, slot_member, slots_dir}
use Rattle.calls.specs.Walk.{Walk, at, blocked, child, empty_slot, first_slot, missing, onward, slot_named, step, walk}
use Rattle.calls.proofs.Lowest.{found-slot}
use Rattle.history.proofs.Nodes.{Among, DirNode, Node, Rep, Stands, at_file, child_at, dir, empty, end, file, seek, slots_of, walk_of}
use Rattle.history.proofs.Sums.{looked_up, this, this_self, times}

-- a slot with an object's ref above 0 is taken
pub taken_some : (n r : ℕ) → 0 < r → taken (n, r) ≡ true
taken_some n r h = rw (ne_eqb r 0 (λ e. omega arith))

-- two choices by one test
pub choice {ℓ} : {A B : Type 0} {C : Type ℓ} (g : A → C) (k : B → C) (q : Bool) (x y : A) (u v : B) → g x ≡ k u → g y ≡ k v
    → g (elim q [ true ↦ x | false ↦ y ]) ≡ k (elim q [ true ↦ u | false ↦ v ])
choice g k true x y u v e f = e
choice g k false x y u v e f = f

-- ---- the slots of a directory, by its row

-- the index of the slot with this name
abbrev pub index_named : List ℕ → Node → Option ℕ
index_named w end = none
index_named w (empty t) = onward (index_named w t)
index_named w (file n r a b t) = elim (same a.body w) [ true ↦ some 0 | false ↦ onward (index_named w t) ]
index_named w (dir n r a b c t) = elim (same a.body w) [ true ↦ some 0 | false ↦ onward (index_named w t) ]

-- the index of the lowest empty slot
abbrev pub index_empty : Node → Option ℕ
index_empty end = none
index_empty (empty t) = some 0
index_empty (file n r a b t) = onward (index_empty t)
index_empty (dir n r a b c t) = onward (index_empty t)

-- as many slots as the block has, each as the block has it
pub total-row : (b : Block) (c : Node) → is_dir b ≡ true → slots b ≡ slots_of c → length (slots_of c) ≡ total b
total-row b c d e = ap length (sym e ∙ slots_dir b d) ∙ length-slots b 0 (total b)

pub slot_row : (b : Block) (c : Node) → is_dir b ≡ true → slots b ≡ slots_of c → (i : ℕ) → i < total b → get_or (slots_of c) i (0, 0) ≡ slot_at b i
slot_row b c d e i l =
    ap (λ (ss : List Slot). get_or ss i (0, 0)) (sym e ∙ slots_dir b d) ∙ slot_member b 0 (total b) i l ∙ ap (slot_at b) (zero-add i)

-- the lowest empty slot
row-empty-slot : (up : ℕ) (c : Node) → Stands up c → first_slot (λ s. not (taken s)) (slots_of c) ≡ index_empty c
unfolding first_slot
row-empty-slot up end s = refl
row-empty-slot up (empty t) s = refl
row-empty-slot up (file n r a b t) s = rw (first_slot, taken_some n r s.1.some) (ap onward (row-empty-slot up t s.3))
row-empty-slot up (dir n r a b c t) s = rw (first_slot, taken_some n r s.1.some) (ap onward (row-empty-slot up t s.4))

pub empty-row : (r up : ℕ) (b : Block) (c : Node) → DirNode r up b c → Stands r c → empty_slot b ≡ index_empty c
empty-row r up b c d s = ap (first_slot (λ s. not (taken s))) d.slots ∙ row-empty-slot r c s

-- ---- among objects whose refs stand once

module _ (os : Objects) (once : (r : ℕ) → times r os ≤ 1) where
  -- the blocks of a row's first slot
  pub name-there : (n r : ℕ) (a b : Block) (t : Node) → Among os (file n r a b t) → block_at os n ≡ a
  name-there n r a b t h = looked_up os n a (omega (arith, h (this n a), this_self n a)) (once n)

  pub file-there : (n r : ℕ) (a b : Block) (t : Node) → Among os (file n r a b t) → block_at os r ≡ b
  file-there n r a b t h = looked_up os r b (omega (arith, h (this r b), this_self r b)) (once r)

  -- a directory's slot as a file's
  pub of_dir : (n r : ℕ) (a b : Block) (c t : Node) → Among os (dir n r a b c t) → Among os (file n r a b t)
  of_dir n r a b c t h f = omega (arith, h f)

  -- the slots behind the first, and the row of a directory
  pub rest_of : (n r : ℕ) (a b : Block) (t : Node) → Among os (file n r a b t) → Among os t
  rest_of n r a b t h f = omega (arith, h f)

  pub row_of_lem : (n r : ℕ) (a b : Block) (c t : Node) → Among os (dir n r a b c t) → Among os c
  row_of_lem n r a b c t h f = omega (arith, h f)

  -- ---- the slot with a name

  abbrev has_name : List ℕ → Slot → Bool
  has_name w s = taken s && same (block_at os s.0).body w

  row-named-slot : (w : List ℕ) (up : ℕ) (c : Node) → Stands up c → Among os c → first_slot (has_name w) (slots_of c) ≡ index_named w c
  unfolding first_slot
  row-named-slot w up end s h = refl
  row-named-slot w up (empty t) s h = ap onward (row-named-slot w up t s h)
  row-named-slot w up (file n r a b t) s h =
      rw (first_slot, name-there n r a b t h, taken_some n r s.1.some)
      (choice {A = Option ℕ} (λ o. o) (λ o. o) (same a.body w) _ _ _ _ refl (ap onward (row-named-slot w up t s.3 (rest_of n r a b t h))))
  row-named-slot w up (dir n r a b c t) s h =
      let k = of_dir n r a b c t h in
      rw (first_slot, name-there n r a b t k, taken_some n r s.1.some)
      (choice {A = Option ℕ} (λ o. o) (λ o. o) (same a.body w) _ _ _ _ refl (ap onward (row-named-slot w up t s.4 (rest_of n r a b t k))))

  pub named-row : (w : List ℕ) (r up : ℕ) (b : Block) (c : Node) → DirNode r up b c → Stands r c → Among os c → slot_named os b w ≡ index_named w c
  named-row w r up b c d s h = ap (first_slot (has_name w)) d.slots ∙ row-named-slot w r c s h

  -- ---- the walk

  -- the object of a slot of a row
  abbrev child_of : List Slot → Option ℕ → Walk
  child_of ss none = missing
  child_of ss (some i) = at (get_or ss i (0, 0)).1

  -- one step from a directory
  step_row : (w : List ℕ) (r up : ℕ) (b : Block) (c : Node) → block_at os r ≡ b → DirNode r up b c → Stands r c → Among os c
      → step os r w ≡ child_of (slots_of c) (index_named w c)
  unfolding step
  step_row w r up b c e d s h =
      rw (step, e, d.is_dir) (rw e (go (slot_named os b w) refl ∙ ap (child_of (slots_of c)) (named-row w r up b c d s h)))
    where
      go : (o : Option ℕ) → slot_named os b w ≡ o → child b o ≡ child_of (slots_of c) o
      go none q = refl
      go (some i) q =
          let l = (found-slot (has_name w) b i q).0 in
          ap (λ (x : Slot). at x.1) (sym (slot_row b c d.is_dir d.slots i l))

  -- the walk after a step
  abbrev further : List (List ℕ) → Walk → Walk
  further ws x = elim x [ missing ↦ missing | blocked ↦ blocked | at q ↦ walk os q ws ]

  walk-file : (ws : List (List ℕ)) (r : ℕ) (b : Block) → block_at os r ≡ b → is_file b ≡ true → walk os r ws ≡ walk_of (at_file ws r b)
  unfolding walk step
  walk-file [] r b e h = refl
  walk-file (w ∷ ws) r b e h = rw (walk, step, e, file_no_dir b h)

  child-onward : (ss : List Slot) (s : Slot) (o : Option ℕ) → child_of (s ∷ ss) (onward o) ≡ child_of ss o
  child-onward ss s none = refl
  child-onward ss s (some i) = refl

  -- a row's slot with the first component
  walk-child : (w : List ℕ) (ws : List (List ℕ)) (up : ℕ)
      → ((r : ℕ) (b : Block) (c : Node) → block_at os r ≡ b → DirNode r up b c → Stands r c → Among os c → walk os r ws ≡ walk_of (seek ws r b c))
      → (c : Node) → Stands up c → Among os c
      → further ws (child_of (slots_of c) (index_named w c)) ≡ walk_of (child_at w (at_file ws) (seek ws) c)
  walk-child w ws up ih end s h = refl
  walk-child w ws up ih (empty t) s h = ap (further ws) (child-onward (slots_of t) (0, 0) (index_named w t)) ∙ walk-child w ws up ih t s h
  walk-child w ws up ih (file n r a b t) s h =
      choice (λ (o : Option ℕ). further ws (child_of ((n, r) ∷ slots_of t) o)) walk_of (same a.body w) _ _ _ _
      (walk-file ws r b (file-there n r a b t h) s.1.is_file)
      (ap (further ws) (child-onward (slots_of t) (n, r) (index_named w t)) ∙ walk-child w ws up ih t s.3 (rest_of n r a b t h))
  walk-child w ws up ih (dir n r a b c t) s h =
      let k = of_dir n r a b c t h in
      choice (λ (o : Option ℕ). further ws (child_of ((n, r) ∷ slots_of t) o)) walk_of (same a.body w) _ _ _ _
      (ih r b c (file-there n r a b t k) s.1 s.3 (row_of_lem n r a b c t h))
      (ap (further ws) (child-onward (slots_of t) (n, r) (index_named w t)) ∙ walk-child w ws up ih t s.4 (rest_of n r a b t k))

  -- from a directory along components
  pub walk_seek : (ws : List (List ℕ)) (r up : ℕ) (b : Block) (c : Node) → block_at os r ≡ b → DirNode r up b c → Stands r c → Among os c
      → walk os r ws ≡ walk_of (seek ws r b c)
  unfolding walk
  walk_seek [] r up b c e d s h = refl
  walk_seek (w ∷ ws) r up b c e d s h =
      ap (further ws) (step_row w r up b c e d s h) ∙ walk-child w ws r (λ r' b' c' e' d'. walk_seek ws r' r b' c' e' d') c s h

-- ---- from the root

pub among_top : (os : Objects) (root : ℕ) (b : Block) (c : Node) → Rep os root b c → Among os c
among_top os root b c p f = omega (arith, p.alike f)

pub root-there : (os : Objects) (root : ℕ) (b : Block) (c : Node) → Rep os root b c → block_at os root ≡ b
root-there os root b c p = looked_up os root b (omega (arith, p.alike (this root b), this_self root b)) (p.once root)

-- the walk along components is what the tree has there
pub walk_is : (os : Objects) (root : ℕ) (b : Block) (c : Node) → Rep os root b c → (ws : List (List ℕ)) → walk os root ws ≡ walk_of (seek ws root b c)
walk_is os root b c p ws =
    walk_seek os p.once ws root root b c (root-there os root b c p) p.top p.row (among_top os root b c p)

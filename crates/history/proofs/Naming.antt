-- Rule 4, from the tree: each block but the root is named by one slot, of its parent.
use Prim.Native.Nat.{◌+◌, ◌<◌, ◌≤◌, suc, ℕ}
use mathlib.Core.Bool.{Bool, ◌||◌, cond, false, not, or-true, true}
use mathlib.Core.List.{List, [], ◌∷◌}
use mathlib.Core.Option.{none}
use mathlib.Core.Path.{◌≡◌, ap, refl, sym}
use native.Mathlib.Omega.{arith}
use lib.Dec.{eqb}
use borrow.Author.Tests.{eq-eqb, eqb-false, eqb-true, ne_eqb}
use Rattle.calls.proofs.Contents.{file_no_dir}
use Rattle.alloc.specs.Block.{Block}
use Rattle.alloc.specs.Volume.{Objects, block_at}
use Rattle.tree.specs.Fields.{Slot, is_dir, slots}
use Rattle.tree.specs.Rules.{all_namings, named_once, namings}
use Rattle.tree.specs.Verdict.{breaker_of, rule4}
use Rattle.tree.proofs.Indexed.{slots-other}
use Rattle.history.proofs.Nodes.{Node, Rep, Stands, dir, empty, end, file, slots_of, sum_of}
use Rattle.history.proofs.Sums.{Item, here, sum, times}
use Rattle.history.proofs.Tested.{all_good, here_self, name_no_dir}
use Rattle.history.proofs.Walks.{file-there, of_dir, root-there}

-- how many slots of a block name r
abbrev named_by : ℕ → Item → ℕ
named_by r o = namings r (slots o.1)

-- the namings in all
all_sum : (r : ℕ) (xs : Objects) → all_namings r xs ≡ sum (named_by r) xs
unfolding all_namings
all_sum r [] = refl
all_sum r (x ∷ xs) = omega (arith, all_sum r xs)

-- what is no directory names nothing
nothing-named : (r : ℕ) (b : Block) → is_dir b ≡ false → namings r (slots b) ≡ 0
unfolding namings
nothing-named r b h = rw (slots-other b h)

-- one slot more
naming_step : (r n o : ℕ) (ss : List Slot) → namings r ss ≤ namings r ((n, o) ∷ ss)
unfolding namings
naming_step r n o ss = go (eqb n r || eqb o r)
  where
    go : (x : Bool) → namings r ss ≤ cond x (suc (namings r ss)) (namings r ss)
    go true = omega arith
    go false = omega arith

-- a slot names its object
naming_self : (n r : ℕ) (ss : List Slot) → 1 ≤ namings r ((n, r) ∷ ss)
unfolding namings
naming_self n r ss = rw (eq-eqb r r refl, or-true (eqb n r)) (omega arith)

-- a slot that names n and o, where r is at most one of them
slot-names : (x y : Bool) (k : ℕ) → cond {A = ℕ} x 1 0 + cond {A = ℕ} y 1 0 ≤ 1
    → cond (x || y) (suc k) k ≡ cond {A = ℕ} x 1 0 + cond {A = ℕ} y 1 0 + k
slot-names true true k h = absurd (omega arith)
slot-names true false k h = omega arith
slot-names false true k h = omega arith
slot-names false false k h = omega arith

-- the slots that name r, in a row and in the rows below it, are as many as the blocks at r
names-row : (r : ℕ) → 0 < r → (up : ℕ) (c : Node) → Stands up c → sum_of (here r) c ≤ 1
    → namings r (slots_of c) + sum_of (named_by r) c ≡ sum_of (here r) c
unfolding namings
names-row r i up end s h = refl
names-row r i up (empty t) s h = rw (ne_eqb 0 r (λ e. omega arith)) (names-row r i up t s h)
names-row r i up (file n o a b t) s h =
    omega (
      arith,
      slot-names (eqb n r) (eqb o r) (namings r (slots_of t)) (omega arith),
      names-row r i up t s.3 (omega arith),
      nothing-named r a (name_no_dir a s.0.is_name),
      nothing-named r b (file_no_dir b s.1.is_file),
    )
names-row r i up (dir n o a b c t) s h =
    omega (
      arith,
      slot-names (eqb n r) (eqb o r) (namings r (slots_of t)) (omega arith),
      names-row r i o c s.3 (omega arith),
      names-row r i up t s.4 (omega arith),
      nothing-named r a (name_no_dir a s.0.is_name),
      ap (namings r) s.1.slots,
    )

-- a row's slots are among its directory's
abbrev Within : Objects → ℕ → Node → Type 0
Within os up c = (r : ℕ) → namings r (slots_of c) ≤ namings r (slots (block_at os up))

-- a whole row
within-whole : (os : Objects) (up : ℕ) (b : Block) (c : Node) → block_at os up ≡ b → slots b ≡ slots_of c → Within os up c
within-whole os up b c e d r = rw (e, d) (omega arith)

-- the last of three tests holds
or_last : (x y w : Bool) → w ≡ true → (x || (y || w)) ≡ true
or_last x y w e = rw (e, or-true y, or-true x)

module _ {os : Objects} {root : ℕ} {rb : Block} {top : Node} (q : Rep os root rb top) where
  -- an object is named once, the root not at all
  once_named : (r : ℕ) → 0 < r → 1 ≤ times r os → eqb (all_namings r os) (cond (eqb r root) 0 1) ≡ true
  once_named r pos h =
      let k = q.alike (here r) in
      let one = q.once r in
      let row : sum_of (here r) top ≤ 1 = omega arith in
      let total : all_namings r os ≡ sum_of (here r) top =
      omega (arith, all_sum r os, q.alike (named_by r), ap (namings r) q.top.slots, names-row r pos root top q.row row) in
      go (eqb root r) refl k total
    where
      go : (x : Bool) → eqb root r ≡ x → times r os ≡ cond {A = ℕ} x 1 0 + sum_of (here r) top → all_namings r os ≡ sum_of (here r) top
          → eqb (all_namings r os) (cond (eqb r root) 0 1) ≡ true
      go true e k t = rw (eq-eqb r root (sym (eqb-true root r e))) (eq-eqb (all_namings r os) 0 (omega (arith, q.once r)))
      go false e k t = rw (ne_eqb r root (λ y. eqb-false root r e (sym y))) (eq-eqb (all_namings r os) 1 (omega (arith, q.once r, h)))

  -- a directory is named by its parent
  dir_named : (up n r : ℕ) (a b : Block) (c t : Node) → 1 ≤ times r os → Stands up (dir n r a b c t) → Within os up (dir n r a b c t)
      → named_once os root r b ≡ true
  unfolding named_once
  dir_named up n r a b c t i s k =
      rw (once_named r s.1.some i) (or_last (not (is_dir b)) (eqb r root) _
      (rw (s.1.parent, ne_eqb (namings r (slots (block_at os up))) 0 (λ e. omega (arith, k r, naming_self n r (slots_of t))))))

  -- rule 4
  pub naming_kept : breaker_of rule4 os root ≡ none
  unfolding named_once
  naming_kept =
      all_good os q.once (named_once os root) (Within os)
      (λ n a i h. rw (once_named n h.some i, name_no_dir a h.is_name))
      (λ r b i h. rw (once_named r h.some i, file_no_dir b h.is_file))
      (λ up t k r. omega (arith, k r, naming_step r 0 0 (slots_of t)))
      (λ up n o a b t k r. omega (arith, k r, naming_step r n o (slots_of t)))
      (λ up n o a b c t k r. omega (arith, k r, naming_step r n o (slots_of t)))
      (λ up n r a b c t i s h k. (
        dir_named up n r a b c t i s k,
        within-whole os r b c (file-there os q.once n r a b t (of_dir os q.once n r a b c t h)) s.1.slots,
      ))
      root rb top q
      (rw (
        once_named root q.top.some (omega (arith, q.alike (here root), here_self root rb)),
        eq-eqb root root refl,
        or-true (not (is_dir rb)),
      ))
      (within-whole os root rb top (root-there os root rb top q) q.top.slots)

-- Every block but the root is named by one slot: so a sum over the objects is the root's term and the sum of what the slots name.
use Prim.Native.Nat.{◌*◌, ◌+◌, ◌<◌, ◌≤◌, suc, ℕ}
use mathlib.Core.Bool.{Bool, ◌||◌, cond, false, false≢true, true}
use mathlib.Core.List.{List, [], ◌∷◌}
use mathlib.Core.Logic.{◌⊎◌, inl, inr}
use mathlib.Core.Path.{◌∙◌, ◌≡◌, ap, refl, subst, sym}
use native.Mathlib.Omega.{arith}
use lib.Dec.{eqb}
use borrow.Author.Tests.{eq-eqb, eqb-false, eqb-true, ne_eqb}
use Rattle.history.proofs.Tested.{name_no_dir, name_no_file}
use Rattle.storage.proofs.Booleans.{and_true}
use Rattle.alloc.specs.Block.{Block}
use Rattle.alloc.specs.Volume.{Objects, block_at}
use Rattle.tree.specs.Fields.{Slot, is_dir, is_file, is_name, slots, taken}
use Rattle.tree.specs.Rules.{all_namings, named_once, namings}
use Rattle.tree.specs.Verdict.{rule3, rule4}
use Rattle.tree.specs.WellFormed.{Every, EveryObject, Keeps, SlotStands, is-empty, is-taken}
use Rattle.tree.proofs.BlockRules.{keeps_tested}
use Rattle.tree.proofs.Breakers.{every_map}
use Rattle.tree.proofs.Formed as formed
use Rattle.tree.proofs.Indexed.{slots_every}
use Rattle.tree.proofs.Namings.{Rises}
use Rattle.history.proofs.Refs.{times_below, times_once}
use Rattle.history.proofs.Sums.{Item, here, sum, times}
use Rattle.history.proofs.Walks.{taken_some}

-- ---- sums

sum-each : (f g : Item → ℕ) (os : Objects) → EveryObject (λ r b. f (r, b) ≡ g (r, b)) os → sum f os ≡ sum g os
sum-each f g [] h = refl
sum-each f g (o ∷ os) h = omega (arith, h.0, sum-each f g os h.1)

pub sum_split : (f g h : Item → ℕ) (os : Objects) → ((o : Item) → f o ≡ g o + h o) → sum f os ≡ sum g os + sum h os
sum_split f g h [] e = refl
sum_split f g h (o ∷ os) e = omega (arith, e o, sum_split f g h os e)

sum_none : (f : Item → ℕ) (os : Objects) → ((o : Item) → f o ≡ 0) → sum f os ≡ 0
sum_none f [] e = refl
sum_none f (o ∷ os) e = omega (arith, e o, sum_none f os e)

-- ---- what stands at a ref

-- something does, so the ref is counted
pub there : (os : Objects) (r : ℕ) → 0 < (block_at os r).magic → 1 ≤ times r os
unfolding block_at
there [] r h = absurd (omega arith)
there (o ∷ os) r h = go (eqb o.0 r) h (there os r)
  where
    go : (q : Bool) → 0 < (elim q as (λ _. Block) [ true ↦ o.1 | false ↦ block_at os r ]).magic
        → (0 < (block_at os r).magic → 1 ≤ times r os) → 1 ≤ cond {A = ℕ} q 1 0 + times r os
    go true h f = omega arith
    go false h f = omega (arith, f h)

-- each object, at its own ref
each_at : (os : Objects) (n : ℕ) (xs : Objects) → Rises n xs → ((r : ℕ) → n ≤ r → block_at os r ≡ block_at xs r)
    → EveryObject (λ r b. block_at os r ≡ b) xs
unfolding block_at
each_at os n [] h e = tt
each_at os n (o ∷ xs) h e = (
  e o.0 h.0 ∙ rw (eq-eqb o.0 o.0 refl, block_at),
  each_at os (suc o.0) xs h.1 (λ r l. e r (omega arith) ∙ rw (ne_eqb o.0 r (λ q. omega arith), block_at)),
)

-- sums of weights that agree on what stands at each ref
pub sum-at : (f g : Item → ℕ) (os : Objects) → Rises 2 os → ((r : ℕ) → f (r, block_at os r) ≡ g (r, block_at os r)) → sum f os ≡ sum g os
sum-at f g os h e =
    sum-each f g os (every_map (λ o. block_at os o.0 ≡ o.1) (λ o. f o ≡ g o) os
    (λ o q. subst (λ (b : Block). f (o.0, b) ≡ g (o.0, b)) q (e o.0)) (each_at os 2 os h (λ r l. refl)))

-- ---- a sum over the objects with one ref

pick_none : (f : Item → ℕ) (x : ℕ) (os : Objects) → times x os ≡ 0 → sum (λ o. f o * here x o) os ≡ 0
pick_none f x [] h = refl
pick_none f x (o ∷ os) h = go (eqb o.0 x) h (pick_none f x os)
  where
    go : (q : Bool) → cond {A = ℕ} q 1 0 + times x os ≡ 0 → (times x os ≡ 0 → sum (λ o. f o * here x o) os ≡ 0)
        → f o * cond {A = ℕ} q 1 0 + sum (λ o. f o * here x o) os ≡ 0
    go true h' k = absurd (omega arith)
    go false h' k = omega (arith, k (omega arith))

pick : (f : Item → ℕ) (x : ℕ) (os : Objects) → times x os ≤ 1 → 1 ≤ times x os → sum (λ o. f o * here x o) os ≡ f (x, block_at os x)
unfolding block_at
pick f x [] l h = absurd (omega arith)
pick f x (o ∷ os) l h = go (eqb o.0 x) refl l h (pick f x os)
  where
    go : (q : Bool) → eqb o.0 x ≡ q → cond {A = ℕ} q 1 0 + times x os ≤ 1 → 1 ≤ cond {A = ℕ} q 1 0 + times x os
        → (times x os ≤ 1 → 1 ≤ times x os → sum (λ o. f o * here x o) os ≡ f (x, block_at os x))
        → f o * cond {A = ℕ} q 1 0 + sum (λ o. f o * here x o) os ≡ f (x, elim q as (λ _. Block) [ true ↦ o.1 | false ↦ block_at os x ])
    go true e l' h' k =
        let a : f o ≡ f (x, o.1) = ap (λ (n : ℕ). f (n, o.1)) (eqb-true o.0 x e) in
        omega (arith, pick_none f x os (omega arith))
    go false e l' h' k = omega (arith, k (omega arith) (omega arith))

-- ---- what slots name

abbrev pub pair_of : (Item → ℕ) → Objects → Slot → ℕ
pair_of f os s = cond (taken s) (f (s.0, block_at os s.0) + f (s.1, block_at os s.1)) 0

abbrev pub pairs_of : (Item → ℕ) → Objects → List Slot → ℕ
pairs_of f os [] = 0
pairs_of f os (s ∷ ss) = pair_of f os s + pairs_of f os ss

-- of an object
abbrev pub kids : (Item → ℕ) → Objects → Item → ℕ
kids f os o = pairs_of f os (slots o.1)

-- a slot's two refs count one each, unless they are one
eqb_sym : (a b : ℕ) → eqb a b ≡ eqb b a
eqb_sym a b = go (eqb a b) refl
  where
    go : (q : Bool) → eqb a b ≡ q → q ≡ eqb b a
    go true e = sym (eq-eqb b a (sym (eqb-true a b e)))
    go false e = sym (ne_eqb b a (λ x. eqb-false a b e (sym x)))

namings_two : (n o r : ℕ) (ss : List Slot) → (n ≡ o → ⊥)
    → namings r ((n, o) ∷ ss) ≡ cond {A = ℕ} (eqb r n) 1 0 + cond {A = ℕ} (eqb r o) 1 0 + namings r ss
unfolding namings
namings_two n o r ss d = rw (eqb_sym n r, eqb_sym o r) (go (eqb r n) (eqb r o) refl refl)
  where
    go : (x y : Bool) → eqb r n ≡ x → eqb r o ≡ y
        → cond (x || y) (suc (namings r ss)) (namings r ss) ≡ cond {A = ℕ} x 1 0 + cond {A = ℕ} y 1 0 + namings r ss
    go true true a b = absurd (d (sym (eqb-true r n a) ∙ eqb-true r o b))
    go true false a b = omega arith
    go false true a b = omega arith
    go false false a b = omega arith

namings_one : (n r : ℕ) (ss : List Slot) → namings r ((n, n) ∷ ss) ≡ cond {A = ℕ} (eqb r n) 1 0 + namings r ss
unfolding namings
namings_one n r ss = rw (eqb_sym n r) (go (eqb r n))
  where
    go : (x : Bool) → cond (x || x) (suc (namings r ss)) (namings r ss) ≡ cond {A = ℕ} x 1 0 + namings r ss
    go true = omega arith
    go false = omega arith

module _ (os : Objects) (s : Slot) where
  apart : is_name (block_at os s.0) ≡ true → (is_file (block_at os s.1) ≡ true) ⊎ (is_dir (block_at os s.1) ≡ true) → s.0 ≡ s.1 → ⊥
  apart n (inl k) e = false≢true (sym (name_no_file (block_at os s.0) n) ∙ rw e k)
  apart n (inr k) e = false≢true (sym (name_no_dir (block_at os s.0) n) ∙ rw e k)

  object-there : (is_file (block_at os s.1) ≡ true) ⊎ (is_dir (block_at os s.1) ≡ true) → 1 ≤ times s.1 os
  object-there (inl k) = there os s.1 (formed.file-there (block_at os s.1) k)
  object-there (inr k) = there os s.1 (formed.dir_there (block_at os s.1) k)

module _ (os : Objects) (rises : Rises 2 os) (f : Item → ℕ) where
  one_at : (r : ℕ) → times r os ≤ 1
  one_at r = times_once 2 r os rises

  three : (a b c x : ℕ) (o : Item) → x ≡ a + b + c → f o * x ≡ f o * a + f o * b + f o * c
  three a b c x o e = ap (λ (n : ℕ). f o * n) e ∙ omega arith

  two : (a b x : ℕ) (o : Item) → x ≡ a + b → f o * x ≡ f o * a + f o * b
  two a b x o e = ap (λ (n : ℕ). f o * n) e ∙ omega arith

  -- a sum over what a row names is one over the objects, each as often as it is named
  row_named : (ss : List Slot) → Every (SlotStands os) ss → pairs_of f os ss ≡ sum (λ o. f o * namings o.0 ss) os
  unfolding namings
  row_named [] h = sym (sum_none (λ o. f o * 0) os (λ o. omega arith))
  row_named (s ∷ ss) h = go h.0 (row_named ss h.1)
    where
      go : SlotStands os s → pairs_of f os ss ≡ sum (λ o. f o * namings o.0 ss) os
          → pair_of f os s + pairs_of f os ss ≡ sum (λ o. f o * namings o.0 (s ∷ ss)) os
      go (is-empty a b) k =
          let q : s ≡ (0, 0) = λ i. (a i, b i) in
          rw q (omega (
            arith,
            k,
            pick_none f 0 os (times_below 2 0 os rises (omega arith)),
            sum_split (λ o. f o * namings o.0 ((0, 0) ∷ ss)) (λ o. f o * here 0 o) (λ o. f o * namings o.0 ss) os
                (λ o. two _ _ _ o (namings_one 0 o.0 ss)),
          ))
      go (is-taken a b c d) k =
          rw (taken_some s.0 s.1 b)
          (omega (
            arith,
            k,
            pick f s.0 os (one_at s.0) (there os s.0 (formed.name-there (block_at os s.0) c)),
            pick f s.1 os (one_at s.1) (object-there os s d),
            sum_split (λ o. f o * namings o.0 (s ∷ ss)) (λ o. f o * here s.0 o + f o * here s.1 o) (λ o. f o * namings o.0 ss) os
                (λ o. three _ _ _ _ o (namings_two s.0 s.1 o.0 ss (apart os s c d))),
            sum_split (λ o. f o * here s.0 o + f o * here s.1 o) (λ o. f o * here s.0 o) (λ o. f o * here s.1 o) os (λ o. refl),
          ))

  all_named : (xs : Objects) → EveryObject (λ r b. Every (SlotStands os) (slots b)) xs → sum (kids f os) xs ≡ sum (λ o. f o * all_namings o.0 xs) os
  unfolding all_namings
  all_named [] h = sym (sum_none (λ o. f o * 0) os (λ o. omega arith))
  all_named (x ∷ xs) h =
      omega (
        arith,
        row_named (slots x.1) h.0,
        all_named xs h.1,
        sum_split (λ o. f o * (namings o.0 (slots x.1) + all_namings o.0 xs)) (λ o. f o * namings o.0 (slots x.1))
            (λ o. f o * all_namings o.0 xs) os (λ o. two _ _ _ o refl),
      )

  module _ (root : ℕ) where
    -- rule 4: named once, but the root
    counted : (r : ℕ) (b : Block) → Keeps rule4 os root r b → all_namings r os + cond {A = ℕ} (eqb r root) 1 0 ≡ 1
    unfolding named_once
    counted r b h =
        go (eqb r root) (eqb-true (all_namings r os) (cond (eqb r root) 0 1)
        (and_true (eqb (all_namings r os) (cond (eqb r root) 0 1)) _ (keeps_tested os rises root rule4 r b h)).0)
      where
        go : (q : Bool) → all_namings r os ≡ cond q 0 1 → all_namings r os + cond {A = ℕ} q 1 0 ≡ 1
        go true e = omega arith
        go false e = omega arith

    all_counted : (xs : Objects) → EveryObject (Keeps rule4 os root) xs
        → sum f xs ≡ sum (λ o. f o * all_namings o.0 os) xs + sum (λ o. f o * here root o) xs
    all_counted [] h = refl
    all_counted (x ∷ xs) h =
        let e : f x * (all_namings x.0 os + cond {A = ℕ} (eqb x.0 root) 1 0) ≡ f x * 1 =
        ap (λ (n : ℕ). f x * n) (counted x.0 x.1 h.0) in
        omega (arith, all_counted xs h.1)

    -- the root's term, and what the slots name
    pub named-sum : is_dir (block_at os root) ≡ true → EveryObject (Keeps rule3 os root) os → EveryObject (Keeps rule4 os root) os
        → sum f os ≡ f (root, block_at os root) + sum (kids f os) os
    named-sum d h3 h4 =
        omega (
          arith,
          all_counted os h4,
          all_named os (every_map (λ o. Keeps rule3 os root o.0 o.1) (λ o. Every (SlotStands os) (slots o.1)) os
              (λ o. slots_every (SlotStands os) o.1) h3),
          pick f root os (one_at root) (there os root (formed.dir_there (block_at os root) d)),
        )

-- `min_by_key` gives the first of the smallest, and `filter` those that have room.
use Prim.Native.Nat.{ℕ, ◌<◌, ◌≤◌}
use mathlib.Core.List.{List, [], ◌∷◌, map}
use mathlib.Core.Path.{◌≡◌, ap, sym, ◌∙◌, subst}
use mathlib.Core.Bool.{Bool, cond}
use native.Mathlib.Omega.{arith}
use borrow.Author.Tests.{lt-ltb, le-ltb}
use denote.Ref.{Bor}
use denote.Param.Members.{Mut}
use Rattle.std.specs.Prelude.{Some, None, fold, option_map}
use Rattle.std.specs.Prelude.{Option as Maybe}
use Rattle.std.specs.List.{reduce, FoldsTo}
use Rattle.std.specs.Fn.{CalledAt}
use Rattle.std.specs.Ordering.{nat_cmp, min_by_ordering}
use Rattle.std.specs.Iterator.{PicksMinByKey, KeyTurn}
use Rattle.std.specs.declared.cmp.Ordering.{Ordering}
use Rattle.std.specs.declared.cmp.Ordering.TheVariants.{Less, Equal, Greater}
use Rattle.std.proofs.lemmas.Cmp.{ranked}
use Rattle.std.proofs.lemmas.Iterator.{YieldsList, items_from_drains}
use Rattle.alloc.specs.Steps.{Link}
use Rattle.alloc.proofs.Fits.{smaller, Each}

-- not the other way round
not_less : (m n a b : ℕ) → (m < n → b < a) → a ≤ b → n ≤ m
not_less m n a b f h = grind arith

not_most : (m n a b : ℕ) → (n ≤ m → a ≤ b) → b < a → m < n
not_most m n a b f h = grind arith

-- items that v shows as links, of each of which P is known
module _ {A : Type 0} (v : A → Link) (P : Link → Type 0) {F : Type 0} (g : Mut F (Bor A × Unit {0}) ℕ) where
  -- what is asked of the keys: they are ordered as the units are, and the closure stays as it is
  pub record Orders (f : F) : Type 0 where
    pub stays : (x : A) (k : ℕ) (q : F) → CalledAt g f x k q → q ≡ f
    pub less : (x y : A) (k j : ℕ) (p q : F) → P (v x) → P (v y) → CalledAt g f x k p → CalledAt g f y j q → (v x).units < (v y).units → k < j
    pub most : (x y : A) (k j : ℕ) (p q : F) → P (v x) → P (v y) → CalledAt g f x k p → CalledAt g f y j q → (v x).units ≤ (v y).units → k ≤ j

  -- k is the key of x
  record Keyed (f : F) (x : A) (k : ℕ) : Type 0 where
    known : P (v x)
    behind : F
    called : CalledAt g f x k behind

  module _ {f : F} (order : Orders f) where
    first_stays : {p x : A} {a b : ℕ} → Keyed f p a → Keyed f x b → a ≤ b → smaller (v p) (v x) ≡ v p
    first_stays {p} {x} {a} {b} s t h =
        let l = order.less x p b a t.behind s.behind t.known s.known t.called s.called in
        ap (λ (q : Bool). cond q (v x) (v p)) (le-ltb (v x).units (v p).units (not_less _ _ a b l h))

    second_comes : {p x : A} {a b : ℕ} → Keyed f p a → Keyed f x b → b < a → smaller (v p) (v x) ≡ v x
    second_comes {p} {x} {a} {b} s t h =
        let m = order.most p x a b s.behind t.behind s.known t.known s.called t.called in
        ap (λ (q : Bool). cond q (v x) (v p)) (lt-ltb (v x).units (v p).units (not_most _ _ a b m h))

    -- of two items the one that the keys pick
    picked : (o : Ordering) (p x y : A) (a b k : ℕ) → nat_cmp a b ≡ o → Keyed f p a → Keyed f x b → k ≡ min_by_ordering o a b → y ≡ min_by_ordering o p x
        → Keyed f y k × (v y ≡ smaller (v p) (v x))
    picked Less p x y a b k e s t h i =
        (subst (λ (z : A). Keyed f z k) (sym i) (subst (Keyed f p) (sym h) s), ap v i ∙ sym (first_stays s t (omega (arith, ranked a b Less (sym e)))))
    picked Equal p x y a b k e s t h i =
        (subst (λ (z : A). Keyed f z k) (sym i) (subst (Keyed f p) (sym h) s), ap v i ∙ sym (first_stays s t (omega (arith, ranked a b Equal (sym e)))))
    picked Greater p x y a b k e s t h i =
        (subst (λ (z : A). Keyed f z k) (sym i) (subst (Keyed f x) (sym h) t), ap v i ∙ sym (second_comes s t (omega (arith, ranked a b Greater (sym e)))))

    turns : (xs : List A) (p q : (F × ℕ) × A) → p.0.0 ≡ f → Keyed f p.1 p.0.1 → Each P (map v xs)
        → FoldsTo {P = (F × ℕ) × A} (KeyTurn min_by_ordering min_by_ordering g nat_cmp) p xs q → v q.1 ≡ fold smaller (v p.1) (map v xs)
    turns [] p q a b e c = ap (λ (w : (F × ℕ) × A). v w.1) (sym c)
    turns (x ∷ xs) p q a b e c =
        let j = c.0 in
        let t = c.1 in
        let called : CalledAt g f x t.0 j.0.0 = subst (λ (w : F). CalledAt g w x t.0 j.0.0) a t.2 in
        let k = picked t.1 p.1 x j.1 p.0.1 t.0 j.0.1 t.3 b (record { known = e.0; behind = j.0.0; called = called }) t.4 t.5 in
        turns xs j q (order.stays x t.0 j.0.0 called) k.0 e.1 c.2 ∙ ap (λ (l : Link). fold smaller l (map v xs)) k.1

    pub first-smallest : {S : Type 0} {steps : S → Maybe A → S → Type 0} {s : S} {all : List Link} (r : Maybe A)
        → PicksMinByKey steps g nat_cmp s f r → YieldsList steps v s all → Each P all → option_map v r ≡ reduce smaller all
    first-smallest None h e k = ap (reduce smaller) (items_from_drains [] (h.1.0, h.1.1, λ _. (h.0, h.1.2)) e)
    first-smallest (Some y) h e k =
        let x = h.0 in
        let xs = h.1 in
        let d = h.5 in
        let items : map v (x ∷ xs) ≡ _ = items_from_drains (x ∷ xs) (d.1.0, d.1.1, λ _. (d.0, d.1.2)) e in
        let known : Each P (map v (x ∷ xs)) = subst (Each P) (sym items) k in
        ap Some (turns xs ((h.3, h.2), x) (h.4, y) (order.stays x h.2 h.3 h.6) (record { known = known.0; behind = h.3; called = h.6 }) known.1 h.7)
        ∙ ap (reduce smaller) items

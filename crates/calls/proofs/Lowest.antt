-- The lowest slot that passes a test: how it is found, and what is found.
use Prim.Native.Nat.{◌+◌, ◌<◌, ◌≤◌, suc, zero, ℕ}
use mathlib.Core.Bool.{Bool, false, true}
use mathlib.Core.List.{List}
use mathlib.Core.Option.{Option, none, some}
use mathlib.Core.Path.{◌∙◌, ◌≡◌, ap, refl, subst, sym}
use native.Mathlib.Nat.{add-zero, zero-add}
use native.Mathlib.Omega.{arith}
use Rattle.std.specs.Prelude as std
use Rattle.std.specs.Prelude.{MatchOption, None, Some}
use Rattle.std.proofs.lemmas.Iterator.{first_from_Range}
use Rattle.std.specs.declared.ops.Range.{Range}
use Rattle.std.specs.Bool.{⊤}
use Rattle.std.specs.Fn.{CalledAt}
use Rattle.std.specs.Iterator.{YieldsThen}
use Rattle.std.specs.List.{FoldsTo}
use Rattle.std.proofs.iter.Yields.{nat_range_steps}
use denote.Ref.{Bor}
use denote.Param.Members.{Mut}
use Rattle.calls.specs.Answers.{index_of}
use Rattle.alloc.specs.Block.{Block}
use Rattle.tree.specs.Fields.{Slot, is_dir, slot_at, slots, slots_from, total}
use Rattle.tree.proofs.Indexed.{slots_dir, slots-other}
use Rattle.calls.specs.Walk.{first_slot, onward}

-- ---- how it is found

-- among n slots from slot j on
module _ (p : Slot → Bool) (b : Block) where
  none_from : (j n : ℕ) → ((k : ℕ) → j ≤ k → k < j + n → false ≡ p (slot_at b k)) → first_slot p (slots_from b j n) ≡ none
  unfolding first_slot slots_from
  none_from j zero h = refl
  none_from j (suc n) h = rw (sym (h j (omega arith) (omega arith))) (ap onward (none_from (j + 1) n (λ k a l. h k (omega arith) (omega arith))))

  some_from : (j n i : ℕ) → i < n → ((k : ℕ) → j ≤ k → k < j + i → false ≡ p (slot_at b k)) → true ≡ p (slot_at b (j + i)) → first_slot p (slots_from b j n) ≡ some i
  unfolding first_slot slots_from
  some_from j zero i l h t = absurd (omega arith)
  some_from j (suc n) zero l h t = rw (subst (λ (k : ℕ). p (slot_at b k) ≡ true) (add-zero j) (sym t)) refl
  some_from j (suc n) (suc i) l h t =
      let m : j + suc i ≡ j + 1 + i = omega arith in
      rw (sym (h j (omega arith) (omega arith)))
      (ap onward (some_from (j + 1) n i (omega arith) (λ k a q. h k (omega arith) (omega arith)) (subst (λ (k : ℕ). true ≡ p (slot_at b k)) m t)))

-- what `find` gives over the slots' numbers
pub lowest_in_range : (p : Slot → Bool) (b : Block) → is_dir b ≡ true → {m n : ℕ} → n ≡ total b
    → {F : Type 0} {g : Mut F (Bor ℕ × Unit {0}) Bool} (u : Range ℕ) {f : F} (o : std.Option ℕ)
    → (xs : List ℕ) × (j : F) × YieldsThen nat_range_steps (record { start = m; end = n }) xs o u
    × FoldsTo (λ h x k. CalledAt g h x false k) f xs j × MatchOption o ⊤ (λ x. (h : F) × CalledAt g j x true h)
    → ((x : ℕ) (k : F) → CalledAt g f x true k → true ≡ p (slot_at b x)) → ((x : ℕ) (k : F) → CalledAt g f x false k → (k ≡ f) × (false ≡ p (slot_at b x)))
    → m ≡ 0 → index_of o ≡ first_slot p (slots b)
lowest_in_range p b d {m} {n} e u o ran meets fails z =
    go o (first_from_Range _ _ _ o (λ i. true ≡ p (slot_at b i)) (λ i. false ≡ p (slot_at b i)) ran meets fails)
    ∙ sym (ap (first_slot p) (slots_dir b d))
  where
    go : (o : std.Option ℕ) → MatchOption o ((k : ℕ) → m ≤ k → k < n → false ≡ p (slot_at b k))
        (λ i. (m ≤ i) × (i < n) × (true ≡ p (slot_at b i)) × ((k : ℕ) → m ≤ k → k < i → false ≡ p (slot_at b k))) → index_of o ≡ first_slot p (slots_from b 0 (total b))
    go None h = sym (none_from p b 0 (total b) (λ k a l. h k (omega (arith, z)) (omega (arith, e))))
    go (Some i) h =
        sym
        (some_from p b 0 (total b) i (omega (arith, h.1, e)) (λ k a l. h.3 k (omega (arith, z)) (omega arith)) (subst (λ (k : ℕ). true ≡ p (slot_at b k)) (sym (zero-add i)) h.2))

-- a number in that range is a slot's
pub slot_in_range : {n m x : ℕ} → n ≡ m → x < n → (y : ℕ) → y ≡ x → y < m
slot_in_range e l y f = omega arith

-- ---- what is found

found_from : (p : Slot → Bool) (b : Block) (j n i : ℕ) → first_slot p (slots_from b j n) ≡ some i → (i < n) × (p (slot_at b (j + i)) ≡ true)
unfolding first_slot slots_from
found_from p b j zero i e = let z : ◌≡◌ {A = ℕ} 0 1 = cc in absurd (omega arith)
found_from p b j (suc n) i e = go (p (slot_at b j)) (first_slot p (slots_from b (j + 1) n)) refl refl e (found_from p b (j + 1) n)
  where
    go : (t : Bool) (o : Option ℕ) → p (slot_at b j) ≡ t → first_slot p (slots_from b (j + 1) n) ≡ o
        → ◌≡◌ {A = Option ℕ} (elim t [ true ↦ some 0 | false ↦ onward o ]) (some i)
        → ((k : ℕ) → first_slot p (slots_from b (j + 1) n) ≡ some k → (k < n) × (p (slot_at b (j + 1 + k)) ≡ true))
        → (i < suc n) × (p (slot_at b (j + i)) ≡ true)
    go true o q f e k =
        let z : 0 ≡ i = cc in
        let m : j ≡ j + i = omega arith in
        (omega arith, subst (λ (x : ℕ). p (slot_at b x) ≡ true) m q)
    go false none q f e k = let z : ◌≡◌ {A = ℕ} 0 1 = cc in absurd (omega arith)
    go false (some x) q f e k =
        let z : suc x ≡ i = cc in
        let m : j + 1 + x ≡ j + i = omega arith in
        let r = k x f in
        (omega (arith, r.0), subst (λ (y : ℕ). p (slot_at b y) ≡ true) m r.1)

pub found-slot : (p : Slot → Bool) (b : Block) (i : ℕ) → first_slot p (slots b) ≡ some i → (i < total b) × (p (slot_at b i) ≡ true)
unfolding first_slot
found-slot p b i e = go (is_dir b) refl
  where
    go : (t : Bool) → is_dir b ≡ t → (i < total b) × (p (slot_at b i) ≡ true)
    go true d =
        let r = found_from p b 0 (total b) i (ap (first_slot p) (sym (slots_dir b d)) ∙ e) in
        (r.0, subst (λ (x : ℕ). p (slot_at b x) ≡ true) (zero-add i) r.1)
    go false d = let z : none ≡ some i = ap (first_slot p) (sym (slots-other b d)) ∙ e in let y : ◌≡◌ {A = ℕ} 0 1 = cc in absurd (omega arith)

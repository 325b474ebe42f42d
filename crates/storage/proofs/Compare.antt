-- What the tests `same` and `zeros` say of lists.
use Prim.Native.Nat.{ℕ, zero, suc, ◌+◌, ◌*◌, ◌/◌, ◌≤◌, ◌<◌}
use mathlib.Core.List.{List, [], ◌∷◌, ◌++◌}
use mathlib.Core.Path.{◌≡◌, refl, ap, sym, ◌∙◌}
use mathlib.Core.Bool.{Bool, true, false, ◌&&◌}
use native.Mathlib.Omega.{arith}
use lib.Dec.{eqb}
use borrow.Author.Tests.{eqb-true, eqb-false, eq-eqb}
use lib.ListN.{length, take, drop, length-drop, take-append-drop}
use lib.Pointwise.{pointwise}
use lib.Seq.{take-add, length-take-le}
use Rattle.std.specs.List.{list_all}
use Rattle.std.specs.Simd.{first_chunks}
use Rattle.std.proofs.lemmas.List.Folds.{list_all-append}
use Rattle.storage.specs.Bytes.{be64, u64_at, same, zeros, zeroed}
use Rattle.storage.proofs.Numbers.{be64-read}

pub same_eq : (s t : List ℕ) → same s t ≡ true → s ≡ t
unfolding same
same_eq [] [] e = refl
same_eq [] (y ∷ t) e = let z : ◌≡◌ {A = ℕ} 0 1 = cc in absurd (omega arith)
same_eq (x ∷ s) [] e = let z : ◌≡◌ {A = ℕ} 0 1 = cc in absurd (omega arith)
same_eq (x ∷ s) (y ∷ t) e = go (eqb x y) refl e (same_eq s t)
  where
    go : (q : Bool) → eqb x y ≡ q → elim q [ true ↦ same s t | false ↦ false ] ≡ true → (same s t ≡ true → s ≡ t) → x ∷ s ≡ y ∷ t
    go true q e f = λ i. eqb-true x y q i ∷ f e i
    go false q e f = let z : ◌≡◌ {A = ℕ} 0 1 = cc in absurd (omega arith)

-- `==` of slices is this test
pub pointwise-same : (s t : List ℕ) → pointwise eqb s t ≡ same s t
unfolding same
pointwise-same [] [] = refl
pointwise-same [] (y ∷ t) = refl
pointwise-same (x ∷ s) [] = refl
pointwise-same (x ∷ s) (y ∷ t) = go (eqb x y) (pointwise-same s t)
  where
    go : (q : Bool) → pointwise eqb s t ≡ same s t → (q && pointwise eqb s t) ≡ elim q [ true ↦ same s t | false ↦ false ]
    go true e = e
    go false e = refl

pub same_prefix : (x s t : List ℕ) → same (x ++ s) (x ++ t) ≡ same s t
unfolding same
same_prefix [] s t = refl
same_prefix (y ∷ x) s t = rw (eq-eqb y y refl, same) (same_prefix x s t)

pub same_refl : (s : List ℕ) → same s s ≡ true
unfolding same
same_refl [] = refl
same_refl (x ∷ s) = rw (eq-eqb x x refl, same) (same_refl s)

pub same_length : (s t : List ℕ) → (length s ≡ length t → ⊥) → same s t ≡ false
same_length s t n = go (same s t) refl
  where
    go : (q : Bool) → same s t ≡ q → q ≡ false
    go true e = absurd (n (ap length (same_eq s t e)))
    go false e = refl

-- lists that begin with a number
pub same_number : (m n : ℕ) (s t : List ℕ) → m < 18446744073709551616 → n < 18446744073709551616
    → same (be64 m ++ s) (be64 n ++ t) ≡ (eqb n m && same s t)
same_number m n s t h k = go (eqb n m) refl
  where
    clash : (q : Bool) → (n ≡ m → ⊥) → same (be64 m ++ s) (be64 n ++ t) ≡ q → q ≡ false
    clash false f e = refl
    clash true f e =
        absurd (f (sym (be64-read n t k) ∙ ap (λ (x : List ℕ). u64_at x 0) (sym (same_eq (be64 m ++ s) (be64 n ++ t) e)) ∙ be64-read m s h))

    go : (q : Bool) → eqb n m ≡ q → same (be64 m ++ s) (be64 n ++ t) ≡ (q && same s t)
    go true e = ap (λ (i : ℕ). same (be64 m ++ s) (be64 i ++ t)) (eqb-true n m e) ∙ same_prefix (be64 m) s t
    go false e = clash (same (be64 m ++ s) (be64 n ++ t)) (eqb-false n m e) refl

-- `all` with a test for zero is this test
pub all-zeros : (s : List ℕ) → list_all (λ x. eqb x 0) s ≡ zeros s
unfolding zeros
all-zeros [] = refl
all-zeros (x ∷ s) = go (eqb x 0) (all-zeros s)
  where
    go : (q : Bool) → list_all (λ x. eqb x 0) s ≡ zeros s → (q && list_all (λ x. eqb x 0) s) ≡ elim q [ true ↦ zeros s | false ↦ false ]
    go true e = e
    go false e = refl

-- the same, eight bytes at once: each chunk is compared with eight zeros, and then each byte behind them
abbrev pub eight_zeros : List ℕ → Bool
eight_zeros w = pointwise eqb w (zeroed 8)

chunk-zeros : (w : List ℕ) → pointwise eqb w (zeroed (length w)) ≡ list_all (λ x. eqb x 0) w
chunk-zeros [] = refl
chunk-zeros (x ∷ w) = ap (λ (q : Bool). eqb x 0 && q) (chunk-zeros w)

chunks-zeros : (k : ℕ) (s : List ℕ) → k * 8 ≤ length s → list_all eight_zeros (first_chunks 8 k s) ≡ list_all (λ x. eqb x 0) (take (k * 8) s)
chunks-zeros zero s h = refl
chunks-zeros (suc k) s h =
    let n : length (take 8 s) ≡ 8 = length-take-le 8 s (omega arith) in
    let one : eight_zeros (take 8 s) ≡ list_all (λ x. eqb x 0) (take 8 s) =
    ap (λ (m : ℕ). pointwise eqb (take 8 s) (zeroed m)) (sym n) ∙ chunk-zeros (take 8 s) in
    let m : 8 + k * 8 ≡ suc k * 8 = omega arith in
    ap (λ (q : Bool). q && list_all eight_zeros (first_chunks 8 k (drop 8 s))) one
    ∙ ap (λ (q : Bool). list_all (λ x. eqb x 0) (take 8 s) && q) (chunks-zeros k (drop 8 s) (omega (arith, length-drop 8 s)))
    ∙ sym (list_all-append (λ x. eqb x 0) (take 8 s) (take (k * 8) (drop 8 s)))
    ∙ ap (list_all (λ x. eqb x 0)) (sym (take-add 8 (k * 8) s) ∙ ap (λ (j : ℕ). take j s) m)

pub chunks-all : (s : List ℕ) (q : Bool) → q ≡ list_all eight_zeros (first_chunks 8 (length s / 8) s)
    → (q && list_all (λ x. eqb x 0) (drop (length s / 8 * 8) s)) ≡ list_all (λ x. eqb x 0) s
chunks-all s q e =
    let n : ℕ = length s / 8 * 8 in
    ap (λ (r : Bool). r && list_all (λ x. eqb x 0) (drop n s)) (e ∙ chunks-zeros (length s / 8) s (omega arith))
    ∙ sym (list_all-append (λ x. eqb x 0) (take n s) (drop n s))
    ∙ ap (list_all (λ x. eqb x 0)) (take-append-drop n s)

pub zeros_are : (s : List ℕ) → zeros s ≡ true → s ≡ zeroed (length s)
unfolding zeros
zeros_are [] e = refl
zeros_are (x ∷ s) e = go x (eqb x 0) refl e (zeros_are s)
  where
    go : (x : ℕ) (q : Bool) → eqb x 0 ≡ q → elim q [ true ↦ zeros s | false ↦ false ] ≡ true
        → (zeros s ≡ true → s ≡ zeroed (length s)) → x ∷ s ≡ 0 ∷ zeroed (length s)
    go x true q e f = λ i. eqb-true x 0 q i ∷ f e i
    go x false q e f = let z : ◌≡◌ {A = ℕ} 0 1 = cc in absurd (omega arith)

pub zeros-zeroed : (n : ℕ) → zeros (zeroed n) ≡ true
unfolding zeros
zeros-zeroed zero = refl
zeros-zeroed (suc n) = zeros-zeroed n

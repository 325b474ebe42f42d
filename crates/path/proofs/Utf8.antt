-- The test of the bytes of a name says exactly that they are UTF-8 by RFC 3629.
use Prim.Native.Nat.{ℕ, zero, suc, ◌+◌, ◌-◌, ◌*◌, ◌/◌, ◌≤◌, ◌<◌}
use mathlib.Core.List.{List, [], ◌∷◌, ◌++◌}
use mathlib.Core.Path.{◌≡◌, refl, ap, sym, ◌∙◌}
use mathlib.Core.Bool.{Bool, true, false, ◌&&◌, ◌||◌, false≢true}
use mathlib.Core.Logic.{◌↔◌}
use native.Mathlib.Omega.{arith}
use borrow.Author.Tests.{eqb-true, eqb-false, ltb-true, ltb-false, leb-true, le-leb}
use lib.Dec.{eqb, leb, ltb}
use lib.ListN.{length, get_or}
use Rattle.path.specs.Utf8.{Scalar, follower, utf8, encoding, Utf8}
use Rattle.path.specs.Name.{within, followers, lowest, highest, awaited, encoded}
use Rattle.path.proofs.Booleans.{and_left, and_right}
use Rattle.path.proofs.FirstBytes.{takes_0, takes_1, takes_2, takes_3, lowest-high}
use Rattle.path.proofs.FirstBytes.{lowest_e0, lowest_f0, lowest-few, lowest_many, lowest-other, highest_ed, highest_f4, highest-other}
use Rattle.path.proofs.Spelling.{whole, awaited_begin}
use Rattle.path.proofs.Encoding.{by_range, utf8_1, utf8_2, utf8_3, utf8_4}

-- the edges of the ranges, computed
edges_taken : (encoded (0xc2 ∷ 0x80 ∷ []) && encoded (0xdf ∷ 0xbf ∷ []) && encoded (0xe0 ∷ 0xa0 ∷ 0x80 ∷ []) && encoded (0xed ∷ 0x9f ∷ 0xbf ∷ [])
    && encoded (0xee ∷ 0x80 ∷ 0x80 ∷ []) && encoded (0xef ∷ 0xbf ∷ 0xbf ∷ []) && encoded (0xf0 ∷ 0x90 ∷ 0x80 ∷ 0x80 ∷ [])
    && encoded (0xf4 ∷ 0x8f ∷ 0xbf ∷ 0xbf ∷ [])) ≡ true
unfolding followers lowest highest awaited
edges_taken = refl

edges_refused : (encoded (0x80 ∷ []) || encoded (0xc0 ∷ 0xaf ∷ []) || encoded (0xc1 ∷ 0xbf ∷ []) || encoded (0xc2 ∷ 0x7f ∷ [])
    || encoded (0xc2 ∷ 0xc0 ∷ []) || encoded (0xe0 ∷ 0x9f ∷ 0xbf ∷ []) || encoded (0xed ∷ 0xa0 ∷ 0x80 ∷ []) || encoded (0xed ∷ 0xbf ∷ 0xbf ∷ [])
    || encoded (0xf0 ∷ 0x8f ∷ 0xbf ∷ 0xbf ∷ []) || encoded (0xf4 ∷ 0x90 ∷ 0x80 ∷ 0x80 ∷ []) || encoded (0xf5 ∷ 0x80 ∷ 0x80 ∷ 0x80 ∷ []) || encoded (0xc2 ∷ [])
    || encoded (0xe0 ∷ 0xa0 ∷ []) || encoded (0xf0 ∷ 0x90 ∷ 0x80 ∷ [])) ≡ false
unfolding followers lowest highest awaited
edges_refused = refl

-- a byte may follow the first byte b
record May (b c : ℕ) : Type 0 where
  first : (0xc2 ≤ b) × (b ≤ 0xf4)
  tail : (0x80 ≤ c) × (c ≤ 0xbf)
  e0 : b ≡ 0xe0 → 0xa0 ≤ c
  ed : b ≡ 0xed → c ≤ 0x9f
  f0 : b ≡ 0xf0 → 0x90 ≤ c
  f4 : b ≡ 0xf4 → c ≤ 0x8f

module _ (b c : ℕ) where
  may_low : May b c → lowest b ≤ c
  may_low m = go (eqb b 0xe0) (eqb b 0xf0) refl refl
    where
      go : (p q : Bool) → eqb b 0xe0 ≡ p → eqb b 0xf0 ≡ q → lowest b ≤ c
      go true q e f = omega (arith, lowest_e0 b (eqb-true b 0xe0 e), m.e0 (eqb-true b 0xe0 e))
      go false true e f = omega (arith, lowest_f0 b (eqb-true b 0xf0 f), m.f0 (eqb-true b 0xf0 f))
      go false false e f =
          omega (arith, lowest-other b (eqb-false b 0xe0 e) (eqb-false b 0xf0 f) m.first.0 m.first.1, m.tail)

  may_high : May b c → c ≤ highest b
  may_high m = go (eqb b 0xed) (eqb b 0xf4) refl refl
    where
      go : (p q : Bool) → eqb b 0xed ≡ p → eqb b 0xf4 ≡ q → c ≤ highest b
      go true q e f = omega (arith, highest_ed b (eqb-true b 0xed e), m.ed (eqb-true b 0xed e))
      go false true e f = omega (arith, highest_f4 b (eqb-true b 0xf4 f), m.f4 (eqb-true b 0xf4 f))
      go false false e f = omega (arith, highest-other b (eqb-false b 0xed e) (eqb-false b 0xf4 f), m.tail)

  may_within : May b c → within (lowest b) (highest b) c ≡ true
  may_within m = rw (le-leb (lowest b) c (may_low m), le-leb c (highest b) (may_high m))

  within_may : 0x80 ≤ b → within (lowest b) (highest b) c ≡ true → May b c
  within_may l e = go (ltb b 0xc2) refl (ltb 0xf4 b) refl
    where
      low : lowest b ≤ c
      low = leb-true (lowest b) c (and_left _ _ e)

      high : c ≤ highest b
      high = leb-true c (highest b) (and_right (leb (lowest b) c) _ e)

      high-most : (p q : Bool) → eqb b 0xed ≡ p → eqb b 0xf4 ≡ q → c ≤ 0xbf
      high-most true q f g = omega (arith, high, highest_ed b (eqb-true b 0xed f))
      high-most false true f g = omega (arith, high, highest_f4 b (eqb-true b 0xf4 g))
      high-most false false f g = omega (arith, high, highest-other b (eqb-false b 0xed f) (eqb-false b 0xf4 g))

      most : c ≤ 0xbf
      most = high-most (eqb b 0xed) (eqb b 0xf4) refl refl

      go : (p : Bool) → ltb b 0xc2 ≡ p → (q : Bool) → ltb 0xf4 b ≡ q → May b c
      go true f q g = absurd (omega (arith, low, most, lowest-few b (ltb-true b 0xc2 f)))
      go false f true g = absurd (omega (arith, low, most, lowest_many b (ltb-true 0xf4 b g)))
      go false f false g = record {
        first = (ltb-false b 0xc2 f, ltb-false 0xf4 b g);
        tail = (omega (arith, low, lowest-high b), most);
        e0 = λ z. omega (arith, low, lowest_e0 b z);
        ed = λ z. omega (arith, high, highest_ed b z);
        f0 = λ z. omega (arith, low, lowest_f0 b z);
        f4 = λ z. omega (arith, high, highest_f4 b z);
      }

-- a plain follower
tail_within : (x : ℕ) → within 0x80 0xbf (follower x) ≡ true
tail_within x = rw (le-leb 0x80 (follower x) (omega arith), le-leb (follower x) 0xbf (omega arith))

within_tail : (c : ℕ) → within 0x80 0xbf c ≡ true → (0x80 ≤ c) × (c ≤ 0xbf)
within_tail c e = (leb-true 0x80 c (and_left _ _ e), leb-true c 0xbf (and_right (leb 0x80 c) _ e))

-- behind a first byte that takes k followers
opens : (k b : ℕ) → followers b ≡ k → (t : List ℕ) → encoded (b ∷ t) ≡ awaited k (lowest b) (highest b) t
opens k b e t = awaited_begin b 0 0x80 0xbf refl t ∙ ap (λ (n : ℕ). awaited n (lowest b) (highest b) t) e

-- whole characters are passed
module _ (b : ℕ) (t : List ℕ) where
  pass_1 : b < 0x80 → encoded (b ∷ t) ≡ encoded t
  pass_1 h = opens 0 b (takes_0 b h) t ∙ whole (lowest b) (highest b) 0x80 0xbf t

  pass_2 : (c : ℕ) → 0x80 ≤ b → b < 0xe0 → May b c → encoded (b ∷ c ∷ t) ≡ encoded t
  unfolding awaited
  pass_2 c l h m = opens 1 b (takes_1 b l h) (c ∷ t) ∙ rw (may_within b c m)

  pass_3 : (c d : ℕ) → 0xe0 ≤ b → b < 0xf0 → May b c → within 0x80 0xbf d ≡ true → encoded (b ∷ c ∷ d ∷ t) ≡ encoded t
  unfolding awaited
  pass_3 c d l h m e = opens 2 b (takes_2 b l h) (c ∷ d ∷ t) ∙ rw (may_within b c m, e)

  pass_4 : (c d f : ℕ) → 0xf0 ≤ b → May b c → within 0x80 0xbf d ≡ true → within 0x80 0xbf f ≡ true
      → encoded (b ∷ c ∷ d ∷ f ∷ t) ≡ encoded t
  unfolding awaited
  pass_4 c d f l m e g = opens 3 b (takes_3 b l) (c ∷ d ∷ f ∷ t) ∙ rw (may_within b c m, e, g)

-- so is the encoding of a scalar value
passes : (n : ℕ) → Scalar n → (t : List ℕ) → encoded (utf8 n ++ t) ≡ encoded t
passes n s t = by_range n 0x80 0x800 0x10000 (encoded (utf8 n ++ t) ≡ encoded t)
    (λ h. ap (λ (u : List ℕ). encoded (u ++ t)) (utf8_1 n h) ∙ pass_1 n t h)
    (λ l h. ap (λ (u : List ℕ). encoded (u ++ t)) (utf8_2 n l h)
    ∙ pass_2 (0xc0 + n / 0x40) t (follower n) (omega arith) (omega arith) (omega arith))
    (λ l h. ap (λ (u : List ℕ). encoded (u ++ t)) (utf8_3 n l h)
    ∙ pass_3 (0xe0 + n / 0x1000) t (follower (n / 0x40)) (follower n) (omega arith) (omega arith) (three l h) (tail_within n))
    (λ l. ap (λ (u : List ℕ). encoded (u ++ t)) (utf8_4 n l)
    ∙ pass_4 (0xf0 + n / 0x40000) t (follower (n / 0x1000)) (follower (n / 0x40)) (follower n) (omega arith) (four l)
    (tail_within (n / 0x40)) (tail_within n))
  where
    three : 0x800 ≤ n → n < 0x10000 → May (0xe0 + n / 0x1000) (follower (n / 0x40))
    three l h = record {
      first = omega arith;
      tail = omega arith;
      e0 = omega arith;
      ed = λ z. surrogate z (ltb n 0xd800) refl;
      f0 = omega arith;
      f4 = omega arith;
    }
      where
        surrogate : 0xe0 + n / 0x1000 ≡ 0xed → (q : Bool) → ltb n 0xd800 ≡ q → follower (n / 0x40) ≤ 0x9f
        surrogate z true e = omega (arith, ltb-true n 0xd800 e)
        surrogate z false e = absurd (s.no_surrogate (ltb-false n 0xd800 e) (omega arith))

    four : 0x10000 ≤ n → May (0xf0 + n / 0x40000) (follower (n / 0x1000))
    four l = record {
      first = omega (arith, s.below);
      tail = omega arith;
      e0 = omega arith;
      ed = omega arith;
      f0 = omega arith;
      f4 = omega (arith, s.below);
    }

all_pass : (ns : List ℕ) → ((i : ℕ) → i < length ns → Scalar (get_or ns i 0)) → encoded (encoding ns) ≡ true
unfolding awaited
all_pass [] s = refl
all_pass (n ∷ ns) s = passes n (s 0 (omega arith)) (encoding ns) ∙ all_pass ns (λ i l. s (suc i) (omega arith))

-- one value more
more : {t : List ℕ} (n : ℕ) → Scalar n → (w : List ℕ) → utf8 n ≡ w → Utf8 t → Utf8 (w ++ t)
more n s w e u = record { scalars = n ∷ u.scalars; each = each; is = λ i. e i ++ u.is i }
  where
    each : (i : ℕ) → i < suc (length u.scalars) → Scalar (get_or (n ∷ u.scalars) i 0)
    each zero l = s
    each (suc i) l = u.each i (omega arith)

-- a first byte that the test takes begins a character, if it takes what is behind
module _ (m b : ℕ) (rest : (t : List ℕ) → length t ≤ m → encoded t ≡ true → Utf8 t) where
  Ends : Type 0
  Ends = (s : List ℕ) → length s ≤ m → encoded (b ∷ s) ≡ true → Utf8 (b ∷ s)

  one : b < 0x80 → Ends
  unfolding Ends
  one h s l e = more b (omega arith) (b ∷ []) (utf8_1 b h) (rest s l (sym (pass_1 b s h) ∙ e))

  two : 0x80 ≤ b → b < 0xe0 → Ends
  unfolding Ends awaited
  two l h [] k e = absurd (false≢true (sym (opens 1 b (takes_1 b l h) []) ∙ e))
  two l h (c ∷ t) k e =
      let f : (within (lowest b) (highest b) c && encoded t) ≡ true = sym (opens 1 b (takes_1 b l h) (c ∷ t)) ∙ e in
      let g : May b c = within_may b c l (and_left _ _ f) in
      let n : ℕ = (b - 0xc0) * 0x40 + (c - 0x80) in
      let x : 0xc0 + n / 0x40 ≡ b = omega (arith, g.first, g.tail) in
      let y : follower n ≡ c = omega (arith, g.first, g.tail) in
      more n (omega (arith, g.first, g.tail)) (b ∷ c ∷ [])
      (utf8_2 n (omega (arith, g.first, g.tail)) (omega (arith, g.first, g.tail)) ∙ (λ i. x i ∷ y i ∷ []))
      (rest t (omega arith) (and_right (within (lowest b) (highest b) c) _ f))

  three : 0xe0 ≤ b → b < 0xf0 → Ends
  unfolding Ends awaited
  three l h [] k e = absurd (false≢true (sym (opens 2 b (takes_2 b l h) []) ∙ e))
  three l h (c ∷ []) k e =
      absurd (false≢true (and_right (within (lowest b) (highest b) c) false (sym (opens 2 b (takes_2 b l h) (c ∷ [])) ∙ e)))
  three l h (c ∷ d ∷ t) k e =
      let f : (within (lowest b) (highest b) c && (within 0x80 0xbf d && encoded t)) ≡ true =
      sym (opens 2 b (takes_2 b l h) (c ∷ d ∷ t)) ∙ e in
      let f' : (within 0x80 0xbf d && encoded t) ≡ true = and_right (within (lowest b) (highest b) c) _ f in
      let g : May b c = within_may b c (omega arith) (and_left _ _ f) in
      let q : (0x80 ≤ d) × (d ≤ 0xbf) = within_tail d (and_left _ _ f') in
      let n : ℕ = (b - 0xe0) * 0x1000 + (c - 0x80) * 0x40 + (d - 0x80) in
      let o : 0x800 ≤ n = least g q (eqb b 0xe0) refl in
      let p : n < 0x10000 = omega (arith, g.tail) in
      let x : 0xe0 + n / 0x1000 ≡ b = omega (arith, g.tail) in
      let y : follower (n / 0x40) ≡ c = omega (arith, g.tail) in
      let z : follower n ≡ d = omega (arith, g.tail) in
      more n (record { below = omega arith; no_surrogate = λ u v. plain g q u v }) (b ∷ c ∷ d ∷ [])
      (utf8_3 n o p ∙ (λ i. x i ∷ y i ∷ z i ∷ []))
      (rest t (omega arith) (and_right (within 0x80 0xbf d) _ f'))
    where
      least : {c d : ℕ} → May b c → (0x80 ≤ d) × (d ≤ 0xbf) → (r : Bool) → eqb b 0xe0 ≡ r
          → 0x800 ≤ (b - 0xe0) * 0x1000 + (c - 0x80) * 0x40 + (d - 0x80)
      least g q true r = omega (arith, g.tail, g.e0 (eqb-true b 0xe0 r), eqb-true b 0xe0 r)
      least g q false r = omega (arith, g.tail, eqb-false b 0xe0 r)

      plain : {c d : ℕ} → May b c → (0x80 ≤ d) × (d ≤ 0xbf) → 0xd800 ≤ (b - 0xe0) * 0x1000 + (c - 0x80) * 0x40 + (d - 0x80)
          → (b - 0xe0) * 0x1000 + (c - 0x80) * 0x40 + (d - 0x80) ≤ 0xdfff → ⊥
      plain g q u v =
          let w : b ≡ 0xed = omega (arith, g.tail) in
          omega (arith, g.tail, g.ed w)

  four : 0xf0 ≤ b → Ends
  unfolding Ends awaited
  four l [] k e = absurd (false≢true (sym (opens 3 b (takes_3 b l) []) ∙ e))
  four l (c ∷ []) k e =
      absurd (false≢true (and_right (within (lowest b) (highest b) c) false (sym (opens 3 b (takes_3 b l) (c ∷ [])) ∙ e)))
  four l (c ∷ d ∷ []) k e =
      absurd (false≢true (and_right (within 0x80 0xbf d) false
      (and_right (within (lowest b) (highest b) c) _ (sym (opens 3 b (takes_3 b l) (c ∷ d ∷ [])) ∙ e))))
  four l (c ∷ d ∷ f ∷ t) k e =
      let h : (within (lowest b) (highest b) c && (within 0x80 0xbf d && (within 0x80 0xbf f && encoded t))) ≡ true =
      sym (opens 3 b (takes_3 b l) (c ∷ d ∷ f ∷ t)) ∙ e in
      let h' : (within 0x80 0xbf d && (within 0x80 0xbf f && encoded t)) ≡ true = and_right (within (lowest b) (highest b) c) _ h in
      let h'' : (within 0x80 0xbf f && encoded t) ≡ true = and_right (within 0x80 0xbf d) _ h' in
      let g : May b c = within_may b c (omega arith) (and_left _ _ h) in
      let q : (0x80 ≤ d) × (d ≤ 0xbf) = within_tail d (and_left _ _ h') in
      let r : (0x80 ≤ f) × (f ≤ 0xbf) = within_tail f (and_left _ _ h'') in
      let n : ℕ = (b - 0xf0) * 0x40000 + (c - 0x80) * 0x1000 + (d - 0x80) * 0x40 + (f - 0x80) in
      let o : 0x10000 ≤ n = least g q r (eqb b 0xf0) refl in
      let p : n < 0x110000 = most g q r (eqb b 0xf4) refl in
      let x : 0xf0 + n / 0x40000 ≡ b = omega (arith, g.tail) in
      let y : follower (n / 0x1000) ≡ c = omega (arith, g.tail) in
      let z : follower (n / 0x40) ≡ d = omega (arith, g.tail) in
      let w : follower n ≡ f = omega (arith, g.tail) in
      more n (record { below = p; no_surrogate = λ u v. omega arith }) (b ∷ c ∷ d ∷ f ∷ [])
      (utf8_4 n o ∙ (λ i. x i ∷ y i ∷ z i ∷ w i ∷ []))
      (rest t (omega arith) (and_right (within 0x80 0xbf f) _ h''))
    where
      least : {c d f : ℕ} → May b c → (0x80 ≤ d) × (d ≤ 0xbf) → (0x80 ≤ f) × (f ≤ 0xbf) → (r : Bool) → eqb b 0xf0 ≡ r
          → 0x10000 ≤ (b - 0xf0) * 0x40000 + (c - 0x80) * 0x1000 + (d - 0x80) * 0x40 + (f - 0x80)
      least g q u true r = omega (arith, g.tail, g.f0 (eqb-true b 0xf0 r), eqb-true b 0xf0 r)
      least g q u false r = omega (arith, g.tail, eqb-false b 0xf0 r)

      most : {c d f : ℕ} → May b c → (0x80 ≤ d) × (d ≤ 0xbf) → (0x80 ≤ f) × (f ≤ 0xbf) → (r : Bool) → eqb b 0xf4 ≡ r
          → (b - 0xf0) * 0x40000 + (c - 0x80) * 0x1000 + (d - 0x80) * 0x40 + (f - 0x80) < 0x110000
      most g q u true r = omega (arith, g.tail, g.f4 (eqb-true b 0xf4 r), eqb-true b 0xf4 r)
      most g q u false r = omega (arith, g.tail, g.first, eqb-false b 0xf4 r)

empty : Utf8 []
empty = record { scalars = []; each = λ i l. absurd (omega arith); is = refl }

Spells : ℕ → Type 0
Spells m = (s : List ℕ) → length s ≤ m → encoded s ≡ true → Utf8 s

longer : (m : ℕ) → Spells m → Spells (suc m)
unfolding Spells Ends
longer m rest [] l e = empty
longer m rest (b ∷ s) l e =
    by_range b 0x80 0xe0 0xf0 (Ends m b rest) (one m b rest) (two m b rest) (three m b rest) (four m b rest) s (omega arith) e

spells : (m : ℕ) → Spells (suc m)
unfolding Spells
spells zero = longer 0 none
  where
    none : (s : List ℕ) → length s ≤ 0 → encoded s ≡ true → Utf8 s
    none [] l e = empty
    none (b ∷ s) l e = absurd (omega arith)
spells (suc m) = longer (suc m) (spells m)

-- THE TEST IS THE DEFINITION
pub encoded-utf8 : (s : List ℕ) → encoded s ≡ true ↔ Utf8 s
unfolding Spells
encoded-utf8 s = (spells (length s) s (omega arith), λ u. sym (ap encoded u.is) ∙ all_pass u.scalars u.each)

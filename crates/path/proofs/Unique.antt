-- The bytes determine the scalar values.
use Prim.Native.Nat.{ℕ, zero, suc, ◌+◌, ◌-◌, ◌*◌, ◌/◌, ◌≤◌}
use mathlib.Core.List.{List, [], ◌∷◌, ◌++◌}
use mathlib.Core.Path.{◌≡◌, refl, ap, sym, ◌∙◌}
use mathlib.Core.Bool.{cond}
use native.Mathlib.Omega.{arith}
use borrow.Author.Tests.{lt-ltb, le-ltb}
use lib.Dec.{ltb}
use Rattle.path.specs.Utf8.{follower, utf8, encoding, Utf8}
use Rattle.path.specs.Name.{followers}
use Rattle.path.proofs.FirstBytes.{takes_1, takes_2, takes_3}
use Rattle.path.proofs.Encoding.{by_range, utf8_1, utf8_2, utf8_3, utf8_4}

-- the values again, from the bytes: k followers are still to come, v is the value of those passed
lead : ℕ → ℕ
lead b = cond (ltb b 0xe0) (b - 0xc0) (cond (ltb b 0xf0) (b - 0xe0) (b - 0xf0))

values : ℕ → ℕ → List ℕ → List ℕ
values k v [] = []
values zero v (b ∷ s) = cond (ltb b 0x80) (b ∷ values 0 0 s) (values (followers b) (lead b) s)
values (suc zero) v (b ∷ s) = (v * 0x40 + (b - 0x80)) ∷ values 0 0 s
values (suc (suc k)) v (b ∷ s) = values (suc k) (v * 0x40 + (b - 0x80)) s

values_utf8 : (n : ℕ) (t : List ℕ) → values 0 0 (utf8 n ++ t) ≡ n ∷ values 0 0 t
unfolding values lead
values_utf8 n t = by_range n 0x80 0x800 0x10000 (values 0 0 (utf8 n ++ t) ≡ n ∷ values 0 0 t)
    (λ h. ap (λ (u : List ℕ). values 0 0 (u ++ t)) (utf8_1 n h) ∙ rw (lt-ltb n 0x80 h))
    (λ l h. ap (λ (u : List ℕ). values 0 0 (u ++ t)) (utf8_2 n l h) ∙ several 1 (0xc0 + n / 0x40) (n / 0x40) (follower n ∷ t)
    (omega arith) (takes_1 (0xc0 + n / 0x40) (omega arith) (omega arith)) (rw (lt-ltb (0xc0 + n / 0x40) 0xe0 (omega arith)) (omega arith))
    ∙ ap (λ (x : ℕ). x ∷ values 0 0 t) (omega arith))
    (λ l h. ap (λ (u : List ℕ). values 0 0 (u ++ t)) (utf8_3 n l h) ∙ several 2 (0xe0 + n / 0x1000) (n / 0x1000) (follower (n / 0x40) ∷ follower n ∷ t)
    (omega arith) (takes_2 (0xe0 + n / 0x1000) (omega arith) (omega arith))
    (rw (le-ltb (0xe0 + n / 0x1000) 0xe0 (omega arith), lt-ltb (0xe0 + n / 0x1000) 0xf0 (omega arith)) (omega arith))
    ∙ ap (λ (x : ℕ). x ∷ values 0 0 t) (omega arith))
    (λ l. ap (λ (u : List ℕ). values 0 0 (u ++ t)) (utf8_4 n l)
    ∙ several 3 (0xf0 + n / 0x40000) (n / 0x40000) (follower (n / 0x1000) ∷ follower (n / 0x40) ∷ follower n ∷ t)
    (omega arith) (takes_3 (0xf0 + n / 0x40000) (omega arith))
    (rw (le-ltb (0xf0 + n / 0x40000) 0xe0 (omega arith), le-ltb (0xf0 + n / 0x40000) 0xf0 (omega arith)) (omega arith))
    ∙ ap (λ (x : ℕ). x ∷ values 0 0 t) regrouped)
  where
    twelve : n / 0x1000 ≡ n / 0x40 / 0x40
    twelve = omega arith

    eighteen : n / 0x40000 ≡ n / 0x1000 / 0x40
    eighteen = omega arith

    regrouped : ((n / 0x40000 * 0x40 + (follower (n / 0x1000) - 0x80)) * 0x40 + (follower (n / 0x40) - 0x80)) * 0x40 + (follower n - 0x80) ≡ n
    regrouped = omega (arith, twelve, eighteen)

    several : (k b v : ℕ) (s : List ℕ) → 0x80 ≤ b → followers b ≡ k → lead b ≡ v → values 0 0 (b ∷ s) ≡ values k v s
    several k b v s l e f = rw (le-ltb b 0x80 l) (λ i. values (e i) (f i) s)

all_values : (ns : List ℕ) → values 0 0 (encoding ns) ≡ ns
unfolding values
all_values [] = refl
all_values (n ∷ ns) = values_utf8 n (encoding ns) ∙ ap (λ (ms : List ℕ). n ∷ ms) (all_values ns)

-- the bytes have one list of scalar values only
pub one_spelling : {s : List ℕ} (u v : Utf8 s) → u.scalars ≡ v.scalars
one_spelling u v = sym (all_values u.scalars) ∙ ap (values 0 0) (u.is ∙ sym v.is) ∙ all_values v.scalars

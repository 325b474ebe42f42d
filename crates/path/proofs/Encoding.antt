-- The encoding of scalar values: the RFC's own examples, and the rows of its table.
use Prim.Native.Nat.{ℕ, ◌+◌, ◌/◌, ◌≤◌, ◌<◌}
use mathlib.Core.List.{[], ◌∷◌}
use mathlib.Core.Path.{◌≡◌, refl}
use mathlib.Core.Bool.{Bool, true, false}
use native.Mathlib.Omega.{arith}
use borrow.Author.Tests.{lt-ltb, le-ltb, ltb-true, ltb-false}
use lib.Dec.{ltb}
use Rattle.path.specs.Utf8.{follower, utf8, encoding}

-- section 7 of the RFC
first_example : encoding (0x41 ∷ 0x2262 ∷ 0x391 ∷ 0x2e ∷ []) ≡ 0x41 ∷ 0xe2 ∷ 0x89 ∷ 0xa2 ∷ 0xce ∷ 0x91 ∷ 0x2e ∷ []
unfolding utf8
first_example = refl

second_example : encoding (0xd55c ∷ 0xad6d ∷ 0xc5b4 ∷ []) ≡ 0xed ∷ 0x95 ∷ 0x9c ∷ 0xea ∷ 0xb5 ∷ 0xad ∷ 0xec ∷ 0x96 ∷ 0xb4 ∷ []
unfolding utf8
second_example = refl

third_example : encoding (0x65e5 ∷ 0x672c ∷ 0x8a9e ∷ []) ≡ 0xe6 ∷ 0x97 ∷ 0xa5 ∷ 0xe6 ∷ 0x9c ∷ 0xac ∷ 0xe8 ∷ 0xaa ∷ 0x9e ∷ []
unfolding utf8
third_example = refl

fourth_example : encoding (0xfeff ∷ 0x233b4 ∷ []) ≡ 0xef ∷ 0xbb ∷ 0xbf ∷ 0xf0 ∷ 0xa3 ∷ 0x8e ∷ 0xb4 ∷ []
unfolding utf8
fourth_example = refl

-- a number by three bounds
pub by_range : (n a b c : ℕ) (C : Type 0) → (n < a → C) → (a ≤ n → n < b → C) → (b ≤ n → n < c → C) → (c ≤ n → C) → C
by_range n a b c C f g h k = first (ltb n a) refl
  where
    third : b ≤ n → (q : Bool) → ltb n c ≡ q → C
    third l true e = h l (ltb-true n c e)
    third l false e = k (ltb-false n c e)

    second : a ≤ n → (q : Bool) → ltb n b ≡ q → C
    second l true e = g l (ltb-true n b e)
    second l false e = third (ltb-false n b e) (ltb n c) refl

    first : (q : Bool) → ltb n a ≡ q → C
    first true e = f (ltb-true n a e)
    first false e = second (ltb-false n a e) (ltb n b) refl

-- the four rows of the table
module _ (n : ℕ) where
  pub utf8_1 : n < 0x80 → utf8 n ≡ n ∷ []
  unfolding utf8
  utf8_1 h = rw (lt-ltb n 0x80 h)

  pub utf8_2 : 0x80 ≤ n → n < 0x800 → utf8 n ≡ (0xc0 + n / 0x40) ∷ follower n ∷ []
  unfolding utf8
  utf8_2 l h = rw (le-ltb n 0x80 l, lt-ltb n 0x800 h)

  pub utf8_3 : 0x800 ≤ n → n < 0x10000 → utf8 n ≡ (0xe0 + n / 0x1000) ∷ follower (n / 0x40) ∷ follower n ∷ []
  unfolding utf8
  utf8_3 l h = rw (le-ltb n 0x80 (omega arith), le-ltb n 0x800 l, lt-ltb n 0x10000 h)

  pub utf8_4 : 0x10000 ≤ n → utf8 n ≡ (0xf0 + n / 0x40000) ∷ follower (n / 0x1000) ∷ follower (n / 0x40) ∷ follower n ∷ []
  unfolding utf8
  utf8_4 l = rw (le-ltb n 0x80 (omega arith), le-ltb n 0x800 (omega arith), le-ltb n 0x10000 l)

-- The first byte of a character: its followers, and the range of the next one.
use Prim.Native.Nat.{ℕ, ◌≤◌, ◌<◌}
use mathlib.Core.Path.{◌≡◌}
use mathlib.Core.Bool.{Bool, true, false, cond}
use native.Mathlib.Omega.{arith}
use borrow.Author.Tests.{eq-eqb, ne_eqb, lt-ltb, le-ltb, le-leb, lt-leb}
use lib.Dec.{eqb, ltb}
use Rattle.path.specs.Name.{within, followers, lowest, highest}

-- the followers of a first byte
module _ (b : ℕ) where
  pub takes_0 : b < 0x80 → followers b ≡ 0
  unfolding followers
  takes_0 h = rw (lt-ltb b 0x80 h)

  pub takes_1 : 0x80 ≤ b → b < 0xe0 → followers b ≡ 1
  unfolding followers
  takes_1 l h = rw (le-ltb b 0x80 l, lt-ltb b 0xe0 h)

  pub takes_2 : 0xe0 ≤ b → b < 0xf0 → followers b ≡ 2
  unfolding followers
  takes_2 l h = rw (le-ltb b 0x80 (omega arith), le-ltb b 0xe0 l, lt-ltb b 0xf0 h)

  pub takes_3 : 0xf0 ≤ b → followers b ≡ 3
  unfolding followers
  takes_3 l = rw (le-ltb b 0x80 (omega arith), le-ltb b 0xe0 (omega arith), le-ltb b 0xf0 l)

  -- the least byte that may follow it
  pub lowest_e0 : b ≡ 0xe0 → lowest b ≡ 0xa0
  unfolding lowest
  lowest_e0 e = rw (eq-eqb b 0xe0 e)

  pub lowest_f0 : b ≡ 0xf0 → lowest b ≡ 0x90
  unfolding lowest
  lowest_f0 e = rw (ne_eqb b 0xe0 (omega arith), eq-eqb b 0xf0 e)

  pub lowest-few : b < 0xc2 → lowest b ≡ 0xff
  unfolding lowest
  lowest-few h = rw (ne_eqb b 0xe0 (omega arith), ne_eqb b 0xf0 (omega arith), lt-leb 0xc2 b h)

  pub lowest_many : 0xf4 < b → lowest b ≡ 0xff
  unfolding lowest
  lowest_many h = rw (ne_eqb b 0xe0 (omega arith), ne_eqb b 0xf0 (omega arith), le-leb 0xc2 b (omega arith), lt-leb b 0xf4 h)

  pub lowest-other : (b ≡ 0xe0 → ⊥) → (b ≡ 0xf0 → ⊥) → 0xc2 ≤ b → b ≤ 0xf4 → lowest b ≡ 0x80
  unfolding lowest
  lowest-other e f l h = rw (ne_eqb b 0xe0 e, ne_eqb b 0xf0 f, le-leb 0xc2 b l, le-leb b 0xf4 h)

  -- the greatest
  pub highest_ed : b ≡ 0xed → highest b ≡ 0x9f
  unfolding highest
  highest_ed e = rw (eq-eqb b 0xed e)

  pub highest_f4 : b ≡ 0xf4 → highest b ≡ 0x8f
  unfolding highest
  highest_f4 e = rw (ne_eqb b 0xed (omega arith), eq-eqb b 0xf4 e)

  pub highest-other : (b ≡ 0xed → ⊥) → (b ≡ 0xf4 → ⊥) → highest b ≡ 0xbf
  unfolding highest
  highest-other e f = rw (ne_eqb b 0xed e, ne_eqb b 0xf4 f)

-- what holds of both numbers holds of the one that is chosen
either : (P : ℕ → Type 0) (q : Bool) {x y : ℕ} → P x → P y → P (cond q x y)
either P true a b = a
either P false a b = b

-- a character has at most 3 followers
pub followers-few : (b : ℕ) → followers b ≤ 3
unfolding followers
followers-few b =
    let P : ℕ → Type 0 = λ n. n ≤ 3 in
    either P (ltb b 0x80) (omega arith) (either P (ltb b 0xe0) (omega arith) (either P (ltb b 0xf0) (omega arith) (omega arith)))

-- 80 at least
pub lowest-high : (b : ℕ) → 0x80 ≤ lowest b
unfolding lowest
lowest-high b =
    let P : ℕ → Type 0 = λ n. 0x80 ≤ n in
    either P (eqb b 0xe0) (omega arith) (either P (eqb b 0xf0) (omega arith) (either P (within 0xc2 0xf4 b) (omega arith) (omega arith)))

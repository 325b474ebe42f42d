-- UTF-8, as RFC 3629 defines it. No test that runs is used here.
use Rattle.std.specs.Prelude.{ℕ, ◌+◌, ◌/◌, ◌%◌, ◌≤◌, ◌<◌, List, [], ◌∷◌, ◌++◌, cond, ◌≡◌, ltb, length, get_or}

-- a scalar value: 0 to 10FFFF, but not the surrogates, D800 to DFFF
pub record Scalar (n : ℕ) : Type 0 where
  pub below : n < 0x110000
  pub no_surrogate : 0xd800 ≤ n → n ≤ 0xdfff → ⊥

-- a byte behind the first, 10xxxxxx: the lowest six bits of x
abbrev pub follower : ℕ → ℕ
follower x = 0x80 + x % 0x40

-- the table of section 3: a value in the fewest bytes that hold it, six bits in each follower
unfoldable pub utf8 : ℕ → List ℕ
utf8 n =
    cond (ltb n 0x80) (n ∷ [])
    (cond (ltb n 0x800) ((0xc0 + n / 0x40) ∷ follower n ∷ [])
    (cond (ltb n 0x10000) ((0xe0 + n / 0x1000) ∷ follower (n / 0x40) ∷ follower n ∷ [])
    ((0xf0 + n / 0x40000) ∷ follower (n / 0x1000) ∷ follower (n / 0x40) ∷ follower n ∷ [])))

-- the encodings of these values, one behind the other
abbrev pub encoding : List ℕ → List ℕ
encoding [] = []
encoding (n ∷ ns) = utf8 n ++ encoding ns

-- the bytes s are UTF-8: the encoding of some list of scalar values
pub record Utf8 (s : List ℕ) : Type 0 where
  pub scalars : List ℕ
  pub each : (i : ℕ) → i < length scalars → Scalar (get_or scalars i 0)
  pub is : encoding scalars ≡ s

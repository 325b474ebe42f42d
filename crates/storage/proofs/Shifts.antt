-- Numbers put together by shifts and ors.
use Prim.Native.Nat.{ℕ, ◌+◌, ◌*◌, ◌/◌, ◌%◌, ◌^◌, ◌<◌}
use mathlib.Core.Path.{◌≡◌, ap, sym, ◌∙◌}
use native.Mathlib.Omega.{arith}
use native.Mathlib.Nat.{add-zero}
use lib.Pow.{split}
use lib.Bits.{bit_or, or_shifted}

-- x has no digit below the k-th, y none from there on
pub or_below : (k x y : ℕ) → x % 2 ^ k ≡ 0 → y < 2 ^ k → bit_or x y ≡ x + y
or_below k x y e h =
    let whole : x / 2 ^ k * 2 ^ k ≡ x = sym (add-zero (x / 2 ^ k * 2 ^ k)) ∙ ap (λ (n : ℕ). x / 2 ^ k * 2 ^ k + n) (sym e) ∙ split x k in
    ap (λ (n : ℕ). bit_or n y) (sym whole) ∙ or_shifted (x / 2 ^ k) k y h ∙ ap (λ (n : ℕ). n + y) whole

-- four bytes
pub or_32 : (a b c d : ℕ) → a < 256 → b < 256 → c < 256 → d < 256
    → bit_or (bit_or (bit_or (a * 2 ^ 24 % 2 ^ 32) (b * 2 ^ 16 % 2 ^ 32)) (c * 2 ^ 8 % 2 ^ 32)) d ≡ a * 16777216 + b * 65536 + c * 256 + d
or_32 a b c d ha hb hc hd =
    let x : ℕ = a * 2 ^ 24 % 2 ^ 32 in
    let y : ℕ = b * 2 ^ 16 % 2 ^ 32 in
    let z : ℕ = c * 2 ^ 8 % 2 ^ 32 in
    let two : bit_or x y ≡ x + y = or_below 24 x y (omega arith) (omega arith) in
    let three : bit_or (bit_or x y) z ≡ bit_or x y + z = or_below 16 (bit_or x y) z (omega arith) (omega arith) in
    or_below 8 (bit_or (bit_or x y) z) d (omega arith) hd ∙ omega arith

-- two halves
pub or_64 : (high low : ℕ) → high < 4294967296 → low < 4294967296 → bit_or (high * 2 ^ 32 % 2 ^ 64) low ≡ high * 4294967296 + low
or_64 high low h l = or_below 32 (high * 2 ^ 32 % 2 ^ 64) low (omega arith) l ∙ omega arith

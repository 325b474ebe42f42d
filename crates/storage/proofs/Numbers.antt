-- Big-endian numbers: read where they were written, read elsewhere, and written back where they were read.
use Prim.Native.Nat.{ℕ, zero, suc, ◌+◌, ◌*◌, ◌/◌, ◌%◌, ◌<◌, ◌≤◌}
use mathlib.Core.List.{List, [], ◌∷◌, ◌++◌}
use mathlib.Core.Path.{◌≡◌, refl, ap, sym, ◌∙◌}
use native.Mathlib.Omega.{arith}
use native.Mathlib.Nat.{add-zero, zero-add, add_assoc}
use lib.ListN.{length, take, drop, get_or, length-drop, get_or-append}
use lib.Seq.{take-add, get_or-drop, get_or-append-add}
use Rattle.storage.specs.Bytes.{be32, be64, u32_at, u64_at, splice}
use Rattle.storage.proofs.Splice.{splice-inside, splice-before, splice-behind}

pub length-be32 : (n : ℕ) → length (be32 n) ≡ 4
unfolding be32
length-be32 n = refl

pub length-be64 : (n : ℕ) → length (be64 n) ≡ 8
unfolding be32 be64
length-be64 n = refl

-- ---- lists that agree on a stretch hold the same number there

pub u32_agree : (s t : List ℕ) (p q : ℕ) → ((i : ℕ) → i < 4 → get_or s (p + i) 0 ≡ get_or t (q + i) 0) → u32_at s p ≡ u32_at t q
unfolding u32_at
u32_agree s t p q h =
    let h0 : get_or s p 0 ≡ get_or t q 0 = simp add-zero at (h 0 (omega arith)) in
    omega (arith, h0, h 1 (omega arith), h 2 (omega arith), h 3 (omega arith))

pub u64_agree : (s t : List ℕ) (p q : ℕ) → ((i : ℕ) → i < 8 → get_or s (p + i) 0 ≡ get_or t (q + i) 0) → u64_at s p ≡ u64_at t q
unfolding u64_at
u64_agree s t p q h =
    let low : u32_at s p ≡ u32_at t q = u32_agree s t p q (λ i b. h i (omega arith)) in
    let high : u32_at s (p + 4) ≡ u32_at t (q + 4) =
    u32_agree s t (p + 4) (q + 4) (λ i b. rw (add_assoc p 4 i, add_assoc q 4 i) (h (4 + i) (omega arith))) in
    cc

pub u32_drop : (s : List ℕ) (n p : ℕ) → u32_at (drop n s) p ≡ u32_at s (n + p)
u32_drop s n p = u32_agree (drop n s) s p (n + p) (λ i h. rw (get_or-drop, add_assoc))

pub u64_drop : (s : List ℕ) (n p : ℕ) → u64_at (drop n s) p ≡ u64_at s (n + p)
u64_drop s n p = u64_agree (drop n s) s p (n + p) (λ i h. rw (get_or-drop, add_assoc))

pub u64_left : (s t : List ℕ) (p : ℕ) → p + 8 ≤ length s → u64_at (s ++ t) p ≡ u64_at s p
u64_left s t p h = u64_agree (s ++ t) s p p (λ i b. get_or-append s t 0 (p + i) (omega arith))

pub u32_right : (s t : List ℕ) (p n : ℕ) → length s + p ≡ n → u32_at (s ++ t) n ≡ u32_at t p
u32_right s t p n e = u32_agree (s ++ t) t n p (λ i b. rw (← e, add_assoc, get_or-append-add))

pub u64_right : (s t : List ℕ) (p n : ℕ) → length s + p ≡ n → u64_at (s ++ t) n ≡ u64_at t p
u64_right s t p n e = u64_agree (s ++ t) t n p (λ i b. rw (← e, add_assoc, get_or-append-add))

-- ---- a number read where it was written

pub be32-read : (n : ℕ) (s : List ℕ) → n < 4294967296 → u32_at (be32 n ++ s) 0 ≡ n
unfolding be32 u32_at
be32-read n s h = omega arith

pub be32-read_4 : (m n : ℕ) (s : List ℕ) → n < 4294967296 → u32_at (be32 m ++ (be32 n ++ s)) 4 ≡ n
be32-read_4 m n s h = u32_right (be32 m) (be32 n ++ s) 0 4 (omega (arith, length-be32 m)) ∙ be32-read n s h

pub be64-read : (n : ℕ) (s : List ℕ) → n < 18446744073709551616 → u64_at (be64 n ++ s) 0 ≡ n
unfolding be64 u64_at
be64-read n s h =
    let a : u32_at (be64 n ++ s) 0 ≡ n / 4294967296 = ap (λ (t : List ℕ). u32_at t 0) (append_two n s) ∙ be32-read (n / 4294967296) _ (omega arith) in
    let b : u32_at (be64 n ++ s) 4 ≡ n % 4294967296 =
    ap (λ (t : List ℕ). u32_at t 4) (append_two n s) ∙ be32-read_4 (n / 4294967296) (n % 4294967296) s (omega arith) in
    halves _ _ n a b
  where
    append_two : (n : ℕ) (s : List ℕ) → be64 n ++ s ≡ be32 (n / 4294967296) ++ (be32 (n % 4294967296) ++ s)
    append_two n s = mathlib.Core.List.append_assoc (be32 (n / 4294967296)) (be32 (n % 4294967296)) s

    halves : (x y n : ℕ) → x ≡ n / 4294967296 → y ≡ n % 4294967296 → x * 4294967296 + y ≡ n
    halves x y n e f = omega arith

pub u64_written : (s : List ℕ) (p n : ℕ) → p + 8 ≤ length s → n < 18446744073709551616 → u64_at (splice s p (be64 n)) p ≡ n
unfolding be32 be64
u64_written s p n h k =
    u64_agree (splice s p (be64 n)) (be64 n ++ []) p 0 (λ i b. splice-inside s (be64 n) p i h b ∙ sym (ap (λ (m : ℕ). get_or (be64 n ++ []) m 0) (zero-add i) ∙ get_or-append (be64 n) [] 0 i b))
    ∙ be64-read n [] k

-- ---- a number read elsewhere: before what was written, or behind it

module _ (s x : List ℕ) (p : ℕ) (h : p + length x ≤ length s) (q : ℕ) where
  pub u32_before : q + 4 ≤ p → u32_at (splice s p x) q ≡ u32_at s q
  u32_before k = u32_agree (splice s p x) s q q (λ i b. splice-before s x p (q + i) h (omega arith))

  pub u32_behind : p + length x ≤ q → u32_at (splice s p x) q ≡ u32_at s q
  u32_behind k = u32_agree (splice s p x) s q q (λ i b. splice-behind s x p (q + i) h (omega arith))

  pub u64_before : q + 8 ≤ p → u64_at (splice s p x) q ≡ u64_at s q
  u64_before k = u64_agree (splice s p x) s q q (λ i b. splice-before s x p (q + i) h (omega arith))

  pub u64_behind : p + length x ≤ q → u64_at (splice s p x) q ≡ u64_at s q
  u64_behind k = u64_agree (splice s p x) s q q (λ i b. splice-behind s x p (q + i) h (omega arith))

-- ---- lists whose elements are bytes

abbrev pub AllBytes : List ℕ → Type 0
AllBytes s = (i : ℕ) → get_or s i 0 < 256

pub bytes_drop : (n : ℕ) (s : List ℕ) → AllBytes s → AllBytes (drop n s)
bytes_drop n s h i = rw (get_or-drop n s i 0) (h (n + i))

pub bytes_take : (n : ℕ) (s : List ℕ) → AllBytes s → AllBytes (take n s)
bytes_take zero s h i = omega arith
bytes_take (suc n) [] h i = omega arith
bytes_take (suc n) (x ∷ s) h zero = h 0
bytes_take (suc n) (x ∷ s) h (suc i) = bytes_take n s (λ j. h (suc j)) i

pub u32_fits : (s : List ℕ) (p : ℕ) → AllBytes s → u32_at s p < 4294967296
unfolding u32_at
u32_fits s p h = omega (arith, h p, h (p + 1), h (p + 2), h (p + 3))

pub u64_fits : (s : List ℕ) (p : ℕ) → AllBytes s → u64_at s p < 18446744073709551616
unfolding u64_at
u64_fits s p h = omega (arith, u32_fits s p h, u32_fits s (p + 4) h)

-- the bytes of a number that was read
pub be32_of : (s : List ℕ) → AllBytes s → 4 ≤ length s → be32 (u32_at s 0) ≡ take 4 s
unfolding be32 u32_at
be32_of [] h k = absurd (omega arith)
be32_of (a ∷ []) h k = absurd (omega arith)
be32_of (a ∷ b ∷ []) h k = absurd (omega arith)
be32_of (a ∷ b ∷ c ∷ []) h k = absurd (omega arith)
be32_of (a ∷ b ∷ c ∷ d ∷ s) h k = four a b c d (h 0) (h 1) (h 2) (h 3)
  where
    four : (a b c d : ℕ) → a < 256 → b < 256 → c < 256 → d < 256
        → be32 (a * 16777216 + b * 65536 + c * 256 + d) ≡ a ∷ b ∷ c ∷ d ∷ []
    four a b c d ha hb hc hd =
        let n : ℕ = a * 16777216 + b * 65536 + c * 256 + d in
        let e : n / 256 / 256 / 256 % 256 ≡ a = omega arith in
        let f : n / 256 / 256 % 256 ≡ b = omega arith in
        let g : n / 256 % 256 ≡ c = omega arith in
        let k : n % 256 ≡ d = omega arith in
        λ i. e i ∷ f i ∷ g i ∷ k i ∷ []

pub be32-at : (s : List ℕ) (n : ℕ) → AllBytes s → n + 4 ≤ length s → be32 (u32_at s n) ≡ take 4 (drop n s)
be32-at s n h k =
    ap be32 (ap (λ (m : ℕ). u32_at s m) (sym (add-zero n)) ∙ sym (u32_drop s n 0))
    ∙ be32_of (drop n s) (bytes_drop n s h) (rw length-drop (omega arith))

pub be64_of : (s : List ℕ) → AllBytes s → 8 ≤ length s → be64 (u64_at s 0) ≡ take 8 s
unfolding be64 u64_at
be64_of s h l =
    let b : u32_at s 4 < 4294967296 = u32_fits s 4 h in
    ap (λ (n : ℕ). be32 n ++ be32 (u64_at s 0 % 4294967296)) (high (u32_at s 0) (u32_at s 4) b)
    ∙ ap (λ (n : ℕ). be32 (u32_at s 0) ++ be32 n) (low (u32_at s 0) (u32_at s 4) b)
    ∙ ap (λ (x : List ℕ). x ++ be32 (u32_at s 4)) (be32-at s 0 h (omega arith))
    ∙ ap (λ (x : List ℕ). take 4 s ++ x) (be32-at s 4 h (omega arith))
    ∙ sym (take-add 4 4 s)
  where
    high : (a b : ℕ) → b < 4294967296 → (a * 4294967296 + b) / 4294967296 ≡ a
    high a b h = omega arith

    low : (a b : ℕ) → b < 4294967296 → (a * 4294967296 + b) % 4294967296 ≡ b
    low a b h = omega arith

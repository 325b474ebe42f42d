-- Numbers of eight bytes, computed: one whose bytes all differ, and one with the highest bit of each half.
use Prim.Native.Nat.{ℕ}
use mathlib.Core.List.{List, [], ◌∷◌}
use mathlib.Core.Path.{◌≡◌, refl}
use Rattle.storage.specs.Bytes.{be32, be64, u32_at, u64_at}

differing : List ℕ
differing = 0x01 ∷ 0x23 ∷ 0x45 ∷ 0x67 ∷ 0x89 ∷ 0xab ∷ 0xcd ∷ 0xef ∷ []

highest : List ℕ
highest = 0x80 ∷ 0 ∷ 0 ∷ 0 ∷ 0x80 ∷ 0 ∷ 0 ∷ 0 ∷ []

differing_read : u64_at differing 0 ≡ 0x0123_4567_89ab_cdef
unfolding differing u32_at u64_at
differing_read = refl

differing_written : be64 0x0123_4567_89ab_cdef ≡ differing
unfolding differing be32 be64
differing_written = refl

highest-read : u64_at highest 0 ≡ 0x8000_0000_8000_0000
unfolding highest u32_at u64_at
highest-read = refl

highest-written : be64 0x8000_0000_8000_0000 ≡ highest
unfolding highest be32 be64
highest-written = refl

-- Lists of bytes: big-endian numbers in them, parts written over them, and comparing them.
use Rattle.std.specs.Prelude.{ℕ, ◌+◌, ◌*◌, ◌/◌, ◌%◌, List, [], ◌∷◌, ◌++◌, Bool, true, false, eqb, length, take, drop, get_or, replicate}

-- the four bytes of a number, the most significant first
unfoldable pub be32 : ℕ → List ℕ
be32 n = n / 256 / 256 / 256 % 256 ∷ n / 256 / 256 % 256 ∷ n / 256 % 256 ∷ n % 256 ∷ []

-- its eight bytes
unfoldable pub be64 : ℕ → List ℕ
be64 n = be32 (n / 4294967296) ++ be32 (n % 4294967296)

-- the number in the four bytes from a position on
unfoldable pub u32_at : List ℕ → ℕ → ℕ
u32_at s at = get_or s at 0 * 16777216 + get_or s (at + 1) 0 * 65536 + get_or s (at + 2) 0 * 256 + get_or s (at + 3) 0

-- the number in the eight bytes from a position on
unfoldable pub u64_at : List ℕ → ℕ → ℕ
u64_at s at = u32_at s at * 4294967296 + u32_at s (at + 4)

-- v over s from a position on
unfoldable pub splice : List ℕ → ℕ → List ℕ → List ℕ
splice s at v = take at s ++ (v ++ drop (at + length v) s)

-- n zeros
abbrev pub zeroed : ℕ → List ℕ
zeroed n = replicate n 0

-- whether all bytes are zero
unfoldable pub zeros : List ℕ → Bool
zeros [] = true
zeros (x ∷ s) = elim (eqb x 0) [ true ↦ zeros s | false ↦ false ]

-- whether two lists are equal
unfoldable pub same : List ℕ → List ℕ → Bool
same [] [] = true
same [] (y ∷ ys) = false
same (x ∷ xs) [] = false
same (x ∷ xs) (y ∷ ys) = elim (eqb x y) [ true ↦ same xs ys | false ↦ false ]

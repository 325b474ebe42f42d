-- Valid names, as they are tested. What the tests say, ValidName states without them.
use Rattle.std.specs.Prelude.{ℕ, zero, suc, List, [], ◌∷◌, Bool, true, false, ◌&&◌, ◌||◌, cond, not, eqb, leb, ltb, length}

-- lo to hi, both included
abbrev pub within : ℕ → ℕ → ℕ → Bool
within lo hi n = leb lo n && leb n hi

-- 00, 2F and 5C
abbrev pub forbidden : ℕ → Bool
forbidden b = eqb b 0x00 || (eqb b 0x2f || eqb b 0x5c)

-- none of them occurs
unfoldable pub allowed : List ℕ → Bool
allowed [] = true
allowed (b ∷ s) = not (forbidden b) && allowed s

-- how many followers the first byte of a character takes
unfoldable pub followers : ℕ → ℕ
followers b = cond (ltb b 0x80) 0 (cond (ltb b 0xe0) 1 (cond (ltb b 0xf0) 2 3))

-- the least byte that may follow it; FF, which is above the greatest, where no character of several bytes begins so
unfoldable pub lowest : ℕ → ℕ
lowest b = cond (eqb b 0xe0) 0xa0 (cond (eqb b 0xf0) 0x90 (cond (within 0xc2 0xf4 b) 0x80 0xff))

-- the greatest byte that may follow it
unfoldable pub highest : ℕ → ℕ
highest b = cond (eqb b 0xed) 0x9f (cond (eqb b 0xf4) 0x8f 0xbf)

-- the bytes spell whole characters, of which so many followers of the first are still to come, the next one from low to high
unfoldable pub awaited : ℕ → ℕ → ℕ → List ℕ → Bool
awaited zero low high [] = true
awaited (suc k) low high [] = false
awaited zero low high (b ∷ s) = awaited (followers b) (lowest b) (highest b) s
awaited (suc k) low high (b ∷ s) = within low high b && awaited k 0x80 0xbf s

-- the bytes are UTF-8, as it is tested (law: exactly where Utf8 says so)
abbrev pub encoded : List ℕ → Bool
encoded s = awaited 0 0x80 0xbf s

-- "." and ".."
abbrev pub dots : List ℕ → Bool
dots [] = false
dots (a ∷ []) = eqb a 0x2e
dots (a ∷ b ∷ []) = eqb a 0x2e && eqb b 0x2e
dots (a ∷ b ∷ c ∷ s) = false

-- a valid name (law: exactly where ValidName says so)
unfoldable pub valid_name : List ℕ → Bool
valid_name s = within 1 64 (length s) && (allowed s && (encoded s && not (dots s)))

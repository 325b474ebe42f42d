-- The steps of the one pass over the bytes of a name.
use Rattle.std.specs.Prelude.{ℕ, ◌≤◌, List, ◌∷◌, ◌≡◌, Bool, false, ◌&&◌}
use Rattle.path.specs.Name.{allowed, awaited, encoded}

-- no byte is forbidden, and the bytes are UTF-8
abbrev pub spelt : List ℕ → Bool
spelt s = allowed s && encoded s

-- the same where so much of a character is still to come
abbrev pub passed : ℕ → ℕ → ℕ → List ℕ → Bool
passed k low high s = allowed s && awaited k low high s

-- the byte b cannot stand where so much was to come
pub record Refuses (b k low high : ℕ) : Type 0 where
  pub never : (t : List ℕ) → passed k low high (b ∷ t) ≡ false

-- behind the byte b, where so much was to come, is so much to come
pub record Goes (b k low high k' low' high' : ℕ) : Type 0 where
  pub high-enough : 0x80 ≤ low'
  pub same : (t : List ℕ) → passed k low high (b ∷ t) ≡ passed k' low' high' t

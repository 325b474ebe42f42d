-- A valid name and a valid path, as document 01 states them below its rules; UTF-8 is that of RFC 3629.
use Rattle.std.specs.Prelude.{ℕ, ◌≤◌, ◌<◌, List, [], ◌∷◌, ◌≡◌, length, get_or}
use Rattle.path.specs.Utf8.{Utf8}
use Rattle.path.specs.Path.{components}

pub record ValidName (s : List ℕ) : Type 0 where
  -- 1 to 64 bytes
  pub size : (1 ≤ length s) × (length s ≤ 64)
  -- 00, 2F and 5C never occur
  pub no_zero : (i : ℕ) → i < length s → get_or s i 0 ≡ 0x00 → ⊥
  pub no_slash : (i : ℕ) → i < length s → get_or s i 0 ≡ 0x2f → ⊥
  pub no_backslash : (i : ℕ) → i < length s → get_or s i 0 ≡ 0x5c → ⊥
  -- the encoding of some scalar values
  pub encoded : Utf8 s
  -- neither "." nor ".."
  pub not_dot : s ≡ 0x2e ∷ [] → ⊥
  pub not_dots : s ≡ 0x2e ∷ 0x2e ∷ [] → ⊥

-- a slash, and behind each slash a name; of "/" alone, the root, there is none
pub record ValidPath (p : List ℕ) : Type 0 where
  pub begins : get_or p 0 0 ≡ 0x2f
  -- at most 16 components
  pub few : length (components p) ≤ 16
  pub names : (i : ℕ) → i < length (components p) → ValidName (get_or (components p) i [])

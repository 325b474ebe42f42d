-- What decides that a name is valid.
use Prim.Native.Nat.{ℕ, ◌≤◌, ◌<◌}
use mathlib.Core.List.{List}
use mathlib.Core.Path.{◌≡◌}
use mathlib.Core.Bool.{false, ◌&&◌, not, and_assoc}
use native.Mathlib.Omega.{arith}
use borrow.Author.Tests.{le-leb, lt-leb}
use lib.ListN.{length}
use Rattle.path.specs.Name.{allowed, encoded, dots, valid_name}
use Rattle.path.specs.Spelling.{spelt}

-- a valid name by its length, and by its bytes where the length is right
module _ (s : List ℕ) where
  pub name_short : length s < 1 → false ≡ valid_name s
  unfolding valid_name
  name_short h = rw (lt-leb 1 (length s) h)

  pub name_long : 64 < length s → false ≡ valid_name s
  unfolding valid_name
  name_long h = rw (le-leb 1 (length s) (omega arith), lt-leb (length s) 64 h)

  pub name_bytes : 1 ≤ length s → length s ≤ 64 → (spelt s && not (dots s)) ≡ valid_name s
  unfolding valid_name
  name_bytes l h = rw (le-leb 1 (length s) l, le-leb (length s) 64 h) (and_assoc (allowed s) (encoded s) (not (dots s)))

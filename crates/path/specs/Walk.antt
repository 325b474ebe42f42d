-- A loop that goes over a list from the front.
use Rattle.std.specs.Prelude.{ℕ, ◌≤◌, List, ◌≡◌, length, drop}

-- at element i of s: what is asked of the whole is f of the elements from i on
pub record Walk {A B : Type 0} (s : List A) (whole : B) (f : List A → B) (i : ℕ) : Type 0 where
  pub inside : i ≤ length s
  pub same : whole ≡ f (drop i s)

-- Document 02's #101: which rule the image breaks, and where, as every call tells it that looks at the image.
use Rattle.std.specs.Prelude.{ℕ, suc, ◌+◌, ◌/◌, ◌≤◌, List, ◌≡◌, Bool, true, false, leb, length}
use Rattle.tree.specs.WellFormed.{Judged}
use Rattle.calls.specs.Refusal.{Refusal, number_of, place_of}
use Rattle.history.specs.History.{Call, format, check, check_marked, find, make, read, read_point, write, set_length, remove, listing, step}
use Rattle.history.specs.Claim.{Bytes}

-- a call that looks at the image s: all but format, and a check that is lent too few marks
abbrev pub looks : List ℕ → Call → Bool
looks s (format k) = false
looks s check = true
looks s (check_marked marks) = leb (length s / 16) (length marks)
looks s (find p) = true
looks s (make p new) = true
looks s (read p position buffer) = true
looks s (read_point p n) = true
looks s (write p position bytes) = true
looks s (set_length p n) = true
looks s (remove p) = true
looks s (listing lent) = true

pub record TellsRule (s : List ℕ) (r : Refusal) : Type 0 where
  -- 20 + n with place p exactly where n is the lowest-numbered broken rule, and p the first block that breaks it
  pub told : (n p : ℕ) → Judged s (record { rule = suc n; place = p }) → (number_of r ≡ 20 + suc n) × (place_of r ≡ p)
  pub only : (n p : ℕ) → number_of r ≡ 20 + suc n → place_of r ≡ p → Judged s (record { rule = suc n; place = p })
  -- a place is told beside no other number
  pub elsewhere : number_of r ≤ 20 → place_of r ≡ 0

-- whatever image of bytes and whatever arguments
unfoldable pub EveryCallTells : Type 0
EveryCallTells = (s : List ℕ) → Bytes s → (c : Call) → looks s c ≡ true → TellsRule s (step s c).refusal

-- a call that does not look at the image has no place
unfoldable pub OthersTellNone : Type 0
OthersTellNone = (s : List ℕ) (c : Call) → looks s c ≡ false → place_of (step s c).refusal ≡ 0

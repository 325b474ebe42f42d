-- How a call on a path begins: it is refused, or reaches what the path names.
use Prim.Native.Nat.{◌<◌, ◌≤◌, ℕ}
use mathlib.Core.Bool.{Bool, cond, false, true}
use mathlib.Core.List.{List, [], ◌∷◌}
use mathlib.Core.Path.{◌≡◌, ap, refl}
use native.Mathlib.Omega.{arith}
use borrow.Author.Tests.{ne_eqb}
use Rattle.path.specs.Path.{all_but_last, components, valid_path}
use Rattle.alloc.specs.Volume.{objects, volume_of}
use Rattle.tree.specs.Fields.{is_dir}
use Rattle.tree.specs.Verdict.{verdict, well_formed}
use Rattle.calls.specs.declared.refusal.Reason.{Reason}
use Rattle.calls.specs.declared.refusal.Reason.TheVariants.{BadLength, BadPath, Exists, IsDirectory, IsRoot, NoRoom, NoSlot}
use Rattle.calls.specs.declared.refusal.Reason.TheVariants.{NotDirectory, NotEmpty, NotFound, OutOfBounds, PastEnd, PastRoom, TooFewLines, TooFewMarks}
use Rattle.calls.specs.Refusal.{Accepted, For, Refusal, accepted, broken, check, number_of, reason_number}
use Rattle.calls.specs.Reading.{block_in}
use Rattle.calls.specs.Walk.{Start, start, Walk, above_last, as_directory, at, blocked, missing, opening, or_refused, reached, refused, start_above, walk, walk_from, walked}

-- a call on the image s is refused: by the image, or for a reason
pub data Refuses (s : List ℕ) : Refusal → Type 0 where
  by_image : well_formed s ≡ false → Refuses s (broken (verdict s))
  by_reason : well_formed s ≡ true → (w : Reason) → Refuses s (For w)

pub reason_bounds : (w : Reason) → (0 < reason_number w) × (reason_number w ≤ 20)
reason_bounds BadLength = omega arith
reason_bounds BadPath = omega arith
reason_bounds NotFound = omega arith
reason_bounds NotDirectory = omega arith
reason_bounds IsDirectory = omega arith
reason_bounds Exists = omega arith
reason_bounds NoSlot = omega arith
reason_bounds NoRoom = omega arith
reason_bounds NotEmpty = omega arith
reason_bounds OutOfBounds = omega arith
reason_bounds IsRoot = omega arith
reason_bounds PastRoom = omega arith
reason_bounds PastEnd = omega arith
reason_bounds TooFewLines = omega arith
reason_bounds TooFewMarks = omega arith

-- it is not accepted
pub refuses : {s : List ℕ} {r : Refusal} → Refuses s r → accepted r ≡ false
refuses {s} (by_image e) = ne_eqb (number_of (broken (verdict s))) 0 (λ z. omega arith)
refuses (by_reason e w) = ne_eqb (reason_number w) 0 (λ z. omega (arith, reason_bounds w))

module _ (C : Start → Type 0) (s path : List ℕ) (allowed : Bool) (f : (r : Refusal) → Refuses s r → C (refused r)) where
  -- what is looked for first, and then what follows
  first : (x : Start) → (well_formed s ≡ true → valid_path path ≡ true → allowed ≡ true → C x) → C (or_refused (opening s path allowed) x)
  unfolding opening check well_formed verdict
  first x g = looking (well_formed s) (valid_path path) allowed refl refl refl
    where
      looking : (a b c : Bool) → well_formed s ≡ a → valid_path path ≡ b → allowed ≡ c
          → C (or_refused (cond a (cond b (cond c Accepted (For OutOfBounds)) (For BadPath)) (cond a Accepted (broken (verdict s)))) x)
      looking true true true p q r = g p q r
      looking true true false p q r = f (For OutOfBounds) (by_reason p OutOfBounds)
      looking true false c p q r = f (For BadPath) (by_reason p BadPath)
      looking false b c p q r = rw (refuses {s = s} (by_image p)) (f (broken (verdict s)) (by_image p))

  -- on a slot of the directory that holds the last component
  pub above_cases : (top : Reason)
      → ((d : ℕ) → well_formed s ≡ true → valid_path path ≡ true → allowed ≡ true → (w : List ℕ) (ws : List (List ℕ)) → components path ≡ w ∷ ws
      → walk_from s (all_but_last (w ∷ ws)) ≡ reached d → is_dir (block_in s d) ≡ true → C (reached d))
      → C (start_above s path allowed top)
  unfolding start_above
  above_cases top g = first (above_last s top (components path)) (λ h v a. by_path h v a (components path) refl)
    where
      by_kind : well_formed s ≡ true → valid_path path ≡ true → allowed ≡ true → (w : List ℕ) (ws : List (List ℕ)) → components path ≡ w ∷ ws → (d : ℕ)
          → walk_from s (all_but_last (w ∷ ws)) ≡ reached d → (q : Bool) → is_dir (block_in s d) ≡ q → C (cond q (reached d) (refused (For NotDirectory)))
      by_kind h v a w ws c d e true k = g d h v a w ws c e k
      by_kind h v a w ws c d e false k = f (For NotDirectory) (by_reason h NotDirectory)

      by_walk : well_formed s ≡ true → valid_path path ≡ true → allowed ≡ true → (w : List ℕ) (ws : List (List ℕ)) → components path ≡ w ∷ ws → (x : Walk)
          → walk (objects (volume_of s)) (volume_of s).root (all_but_last (w ∷ ws)) ≡ x → C (as_directory s (walked x))
      by_walk h v a w ws c missing e = f (For NotFound) (by_reason h NotFound)
      by_walk h v a w ws c blocked e = f (For NotDirectory) (by_reason h NotDirectory)
      by_walk h v a w ws c (at d) e = by_kind h v a w ws c d (ap walked e) (is_dir (block_in s d)) refl

      by_path : well_formed s ≡ true → valid_path path ≡ true → allowed ≡ true → (ws : List (List ℕ)) → components path ≡ ws → C (above_last s top ws)
      by_path h v a [] c = f (For top) (by_reason h top)
      by_path h v a (w ∷ ws) c = by_walk h v a w ws c (walk (objects (volume_of s)) (volume_of s).root (all_but_last (w ∷ ws))) refl

  -- on what the path names
  pub start_cases : ((r : ℕ) → well_formed s ≡ true → valid_path path ≡ true → allowed ≡ true → walk_from s (components path) ≡ reached r → C (reached r)) → C (start s path allowed)
  unfolding start
  start_cases g =
      first (walk_from s (components path)) (λ h v a. by_walk h v a (walk (objects (volume_of s)) (volume_of s).root (components path)) refl)
    where
      by_walk : well_formed s ≡ true → valid_path path ≡ true → allowed ≡ true → (x : Walk) → walk (objects (volume_of s)) (volume_of s).root (components path) ≡ x → C (walked x)
      by_walk h v a missing e = f (For NotFound) (by_reason h NotFound)
      by_walk h v a blocked e = f (For NotDirectory) (by_reason h NotDirectory)
      by_walk h v a (at r) e = g r h v a (ap walked e)

-- The refs of the objects of a volume: each stands once at most, and ref 0 never.
use Prim.Native.Nat.{◌+◌, ◌<◌, ◌≤◌, suc, ℕ}
use mathlib.Core.Bool.{Bool, cond, false, true}
use mathlib.Core.List.{[], ◌∷◌}
use mathlib.Core.Path.{◌≡◌, refl}
use native.Mathlib.Omega.{arith}
use lib.Dec.{eqb}
use borrow.Author.Tests.{eqb-true, ne_eqb}
use Rattle.alloc.specs.Volume.{Objects, Volume, objects}
use Rattle.tree.proofs.Namings.{Rises, objects_rise}
use Rattle.history.proofs.Sums.{times}

-- refs that rise from n on are none below n
pub times_below : (n r : ℕ) (os : Objects) → Rises n os → r < n → times r os ≡ 0
times_below n r [] h l = refl
times_below n r (o ∷ os) h l =
    let e = ne_eqb o.0 r (λ e. omega arith) in
    rw e (omega (arith, times_below (suc o.0) r os h.1 (omega arith)))

-- and each is there once at most
pub times_once : (n r : ℕ) (os : Objects) → Rises n os → times r os ≤ 1
times_once n r [] h = omega arith
times_once n r (o ∷ os) h = go (eqb o.0 r) refl (times_once (suc o.0) r os h.1)
  where
    go : (q : Bool) → eqb o.0 r ≡ q → times r os ≤ 1 → cond {A = ℕ} q 1 0 + times r os ≤ 1
    go true e k = omega (arith, times_below (suc o.0) r os h.1 (omega (arith, eqb-true o.0 r e)))
    go false e k = omega arith

pub refs_once : (v : Volume) (r : ℕ) → times r (objects v) ≤ 1
unfolding objects
refs_once v r = times_once 2 r (objects v) (objects_rise 2 v.extents)

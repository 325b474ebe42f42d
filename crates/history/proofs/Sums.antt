-- Sums over the objects of an image. Two lists of entries are the same collection where every sum over them agrees.
use Prim.Native.Nat.{◌+◌, ◌≤◌, ℕ}
use mathlib.Core.Bool.{Bool, ◌&&◌, cond, false, true}
use mathlib.Core.List.{[], ◌∷◌}
use mathlib.Core.Path.{ap₂, ◌≡◌, refl}
use native.Mathlib.Omega.{arith}
use lib.Dec.{eqb}
use borrow.Author.Tests.{eq-eqb, eqb-true}
use Rattle.storage.specs.Bytes.{same}
use Rattle.storage.proofs.Compare.{same_eq, same_refl}
use Rattle.alloc.specs.Block.{Block}
use Rattle.alloc.specs.Volume.{Objects, block_at}

-- an object with its ref
abbrev pub Item : Type 0
Item = ℕ × Block

abbrev pub sum : (Item → ℕ) → Objects → ℕ
sum f [] = 0
sum f (o ∷ os) = f o + sum f os

-- an entry is this one
abbrev pub same_block : Block → Block → Bool
same_block a b = eqb a.magic b.magic && same a.body b.body

abbrev pub here : ℕ → ℕ × Block → ℕ
here r o = cond (eqb o.0 r) 1 0

abbrev pub this : ℕ → Block → ℕ × Block → ℕ
this r b o = cond (eqb o.0 r && same_block o.1 b) 1 0

abbrev pub times : ℕ → Objects → ℕ
times r os = sum (here r) os

pub this_self : (r : ℕ) (b : Block) → this r b (r, b) ≡ 1
this_self r b = rw (eq-eqb r r refl, eq-eqb b.magic b.magic refl, same_refl b.body)

this_le : (r : ℕ) (b : Block) (o : ℕ × Block) → this r b o ≤ here r o
this_le r b o = go (eqb o.0 r) (same_block o.1 b)
  where
    go : (p q : Bool) → cond {A = ℕ} (p && q) 1 0 ≤ cond {A = ℕ} p 1 0
    go true true = omega arith
    go true false = omega arith
    go false q = omega arith

pub sum_this_le : (r : ℕ) (b : Block) (os : Objects) → sum (this r b) os ≤ times r os
sum_this_le r b [] = omega arith
sum_this_le r b (o ∷ os) = omega (arith, this_le r b o, sum_this_le r b os)

pub same_block_true : (a b : Block) → same_block a b ≡ true → a ≡ b
same_block_true a b = go (eqb a.magic b.magic) (same a.body b.body) refl refl
  where
    go : (p q : Bool) → eqb a.magic b.magic ≡ p → same a.body b.body ≡ q → (p && q) ≡ true → a ≡ b
    go true true x y e = λ i. record { magic = eqb-true a.magic b.magic x i; body = same_eq a.body b.body y i }
    go true false x y e = cc
    go false q x y e = cc

-- the block that is there, where no two entries have one ref
pub looked_up : (os : Objects) (r : ℕ) (b : Block) → 1 ≤ sum (this r b) os → times r os ≤ 1 → block_at os r ≡ b
unfolding block_at
looked_up [] r b h k = absurd (omega arith)
looked_up (o ∷ os) r b h k = go (eqb o.0 r) (same_block o.1 b) refl h k (λ h' k'. looked_up os r b h' k')
  where
    go : (p q : Bool) → same_block o.1 b ≡ q
        → 1 ≤ cond {A = ℕ} (p && q) 1 0 + sum (this r b) os → cond {A = ℕ} p 1 0 + times r os ≤ 1
        → (1 ≤ sum (this r b) os → times r os ≤ 1 → block_at os r ≡ b)
        → elim p as (λ _. Block) [ true ↦ o.1 | false ↦ block_at os r ] ≡ b
    go true true e h' k' f = same_block_true o.1 b e
    go true false e h' k' f = absurd (omega (arith, sum_this_le r b os))
    go false q e h' k' f = f (omega arith) (omega arith)

-- an entry counts in every sum
pub member_le : (g : Item → ℕ) (r : ℕ) (b : Block) (os : Objects) → 1 ≤ sum (this r b) os → g (r, b) ≤ sum g os
member_le g r b [] h = absurd (omega arith)
member_le g r b (o ∷ os) h = go (eqb o.0 r) (same_block o.1 b) refl refl h (member_le g r b os)
  where
    go : (p q : Bool) → eqb o.0 r ≡ p → same_block o.1 b ≡ q → 1 ≤ cond {A = ℕ} (p && q) 1 0 + sum (this r b) os → (1 ≤ sum (this r b) os → g (r, b) ≤ sum g os) → g (r, b) ≤ g o + sum g os
    go true true x y h' k =
        let e : g o ≡ g (r, b) = ap₂ (λ (n : ℕ) (c : Block). g (n, c)) (eqb-true o.0 r x) (same_block_true o.1 b y) in
        omega arith
    go true false x y h' k = omega (arith, k (omega arith))
    go false q x y h' k = omega (arith, k (omega arith))

-- What placing, releasing and writing do to sums over the objects, and that the volume stays sound.
use Prim.Native.Nat.{◌+◌, ◌<◌, ◌≤◌, ℕ}
use mathlib.Core.Bool.{Bool, cond, false, true}
use mathlib.Core.Logic.{inl, inr}
use mathlib.Core.List.{List, [], ◌++◌, ◌∷◌}
use mathlib.Core.Path.{◌≡◌, ap, refl, subst, sym}
use native.Mathlib.Omega.{arith}
use lib.Dec.{eqb}
use lib.ListN.{length}
use borrow.Author.Tests.{eqb-true}
use Rattle.alloc.specs.Block.{Block, units}
use Rattle.alloc.specs.Room.{PlacedPair, released, updated}
use Rattle.alloc.specs.Sound.{SoundExtent, SoundVolume, end_of}
use Rattle.alloc.specs.Volume.{Extent, Objects, Volume, allocated, block_at, free, objects, objects_from}
use Rattle.alloc.proofs.Both.{Both, Paired}
use Rattle.alloc.proofs.Changes.{Changed, Inserted, fit_inserted, objects-changed, objects_deleted, pair_sound, released-sound, updated-sound}
use Rattle.alloc.proofs.Data.{found, sized_at, spliced}
use Rattle.alloc.proofs.Heads.{end_ge, volume}
use Rattle.history.proofs.Refs.{refs_once}
use Rattle.history.proofs.Sums.{Item, looked_up, sum, this, times}

-- ---- an object's ref lies within the image

within_from : (r q : ℕ) (es : List Extent) → 1 ≤ times r (objects_from q es) → (q ≤ r) × (r < end_of q es)
unfolding objects_from end_of
within_from r q [] h = absurd (omega arith)
within_from r q (allocated b ∷ es) h = go (eqb q r) refl h (within_from r (q + units b) es)
  where
    go : (x : Bool) → eqb q r ≡ x → 1 ≤ cond {A = ℕ} x 1 0 + times r (objects_from (q + units b) es)
        → (1 ≤ times r (objects_from (q + units b) es) → (q + units b ≤ r) × (r < end_of (q + units b) es))
        → (q ≤ r) × (r < end_of (q + units b) es)
    go true e k f = let z : q ≡ r = eqb-true q r e in (omega arith, omega (arith, end_ge (q + units b) es))
    go false e k f = let z = f (omega arith) in (omega arith, z.1)
within_from r q (free u l ∷ es) h = let z = within_from r (q + u) es h in (omega arith, z.1)

-- it fits a slot's field, and is not 0
pub ref-within : {n : ℕ} {v : Volume} → SoundVolume n v → (r : ℕ) → 1 ≤ times r (objects v) → (0 < r) × (r < 18446744073709551616)
unfolding objects
ref-within {n} {v} k r h = let z = within_from r 2 v.extents h in (omega arith, omega (arith, k.extents.small))

-- ---- one move: the sum loses some terms and gains others

-- v becomes w, sound and of n bytes
pub record Move (n : ℕ) (v w : Volume) (less more : (Item → ℕ) → ℕ) : Type 0 where
  pub sound : SoundVolume n w
  pub sums : (f : Item → ℕ) → sum f (objects w) + less f ≡ sum f (objects v) + more f

-- sums of joined lists, and of lists with one entry more or another
sum-append : (f : Item → ℕ) (xs ys : Objects) → sum f (xs ++ ys) ≡ sum f xs + sum f ys
sum-append f [] ys = omega arith
sum-append f (o ∷ xs) ys = omega (arith, sum-append f xs ys)

sum_inserted : (f : Item → ℕ) {t : ℕ} {b : Block} {xs ys : Objects} → Inserted t b xs ys → sum f ys ≡ sum f xs + f (t, b)
sum_inserted f {t} {b} i =
    rw (i.was, i.now_is)
    (omega (arith, sum-append f i.before i.behind_it, sum-append f i.before ((t, b) ∷ i.behind_it)))

sum-changed : (f : Item → ℕ) {t : ℕ} {b c : Block} {xs ys : Objects} → Changed t b c xs ys → sum f ys + f (t, b) ≡ sum f xs + f (t, c)
sum-changed f {t} {b} {c} i =
    rw (i.was, i.now_is)
    (omega (arith, sum-append f i.before ((t, b) ∷ i.behind_it), sum-append f i.before ((t, c) ∷ i.behind_it)))

-- this block is an object, at ref t
pub record Has (v : Volume) (t : ℕ) (b : Block) : Type 0 where
  pub counted : 1 ≤ sum (this t b) (objects v)
  pub real : 0 < b.magic

module _ {v : Volume} {t : ℕ} {b : Block} (h : Has v t b) where
  -- it is found there
  pub has_block : block_at (objects v) t ≡ b
  has_block = looked_up (objects v) t b h.counted (refs_once v t)

  has_magic : 0 < (block_at (objects v) t).magic
  has_magic = subst (λ (c : Block). 0 < c.magic) (sym has_block) h.real

  -- its size is that of a block
  pub has_size : {n : ℕ} → SoundVolume n v → length b.body < 4294967296
  unfolding objects
  has_size k =
      let z = sized_at v t _ k.extents.sound (found 2 t v.extents has_magic) in
      omega (arith, z, ap (λ (c : Block). length c.body) has_block)

module _ {n : ℕ} {v : Volume} (k : SoundVolume n v) where
  -- bytes written over an object
  pub updated_move : {t : ℕ} {b : Block} → Has v t b → (p : ℕ) (x : List ℕ) → p + length x ≤ length b.body
      → Move n v (volume v.root (updated t p x 2 v.extents)) (λ f. f (t, b)) (λ f. f (t, spliced b p x))
  unfolding objects
  updated_move {t} {b} h p x l =
      let e = has_block h in
      let m : p + length x ≤ length (block_at (objects v) t).body = omega (arith, ap (λ (c : Block). length c.body) e) in
      record {
        sound = updated-sound k t p x (has_magic h) m;
        sums = λ f. subst (λ (c : Block). sum f (objects_from 2 (updated t p x 2 v.extents)) + f (t, c) ≡ sum f (objects v) + f (t, spliced c p x)) e
            (sum-changed f (objects-changed t p x v.extents (has_magic h) m));
      }

  -- an object released
  pub released_move : {t : ℕ} {b : Block} → Has v t b → Move n v (volume v.root (released t v.extents)) (λ f. f (t, b)) (λ f. 0)
  unfolding objects
  released_move {t} {b} h = record {
    sound = released-sound k t (has_magic h);
    sums = λ f. omega (arith, sum_inserted f (objects_deleted t v.extents (has_magic h)), ap (λ (c : Block). f (t, c)) (has_block h));
  }

-- ---- a pair placed

-- one block, then another
both-sum : (f : Item → ℕ) {b c : Block} {es : List Extent} {s t : ℕ} {fs : List Extent} → Both b c es s t fs
    → sum f (objects_from 2 fs) ≡ sum f (objects_from 2 es) + (f (s, b) + f (t, c))
both-sum f {b} {c} {es} w = omega (arith, sum_inserted f (fit_inserted b es _ w.first), sum_inserted f (fit_inserted c w.mid _ w.second))

-- in the one order or in the other
pair_sum : (f : Item → ℕ) {a b : Block} {es : List Extent} {x : PlacedPair} → Paired a b es x
    → sum f (objects_from 2 x.extents) ≡ sum f (objects_from 2 es) + (f (x.name, a) + f (x.object, b))
pair_sum f (inl w) = both-sum f w
pair_sum f (inr w) = omega (arith, both-sum f w)

-- both are gained
pub pair_move : {n : ℕ} {v : Volume} → SoundVolume n v → {a b : Block} {x : PlacedPair} → SoundExtent (allocated a) → SoundExtent (allocated b) → Paired a b v.extents x
    → Move n v (volume v.root x.extents) (λ f. 0) (λ f. f (x.name, a) + f (x.object, b))
unfolding objects
pair_move k p q w = record { sound = pair_sound k p q w; sums = λ f. omega (arith, pair_sum f w) }

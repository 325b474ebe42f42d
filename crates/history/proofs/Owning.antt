-- Every unit of a sound image is owned once: by the superblock, an object, or a block of the free chain.
use Prim.Native.Nat.{◌*◌, ◌+◌, ◌-◌, ◌<◌, ◌≤◌, suc, zero, ℕ}
use mathlib.Core.Bool.{Bool, false, true}
use mathlib.Core.List.{List, [], ◌++◌, ◌∷◌, append_assoc}
use mathlib.Core.Path.{◌∙◌, ◌≡◌, ap, refl, subst, sym}
use native.Mathlib.Omega.{arith}
use lib.Dec.{leb, ltb}
use lib.ListN.{length}
use borrow.Author.Tests.{le-leb, le-ltb, leb-false, leb-true, lt-leb, lt-ltb, ltb-false, ltb-true}
use Rattle.storage.specs.Bytes.{u32_at, u64_at}
use Rattle.storage.proofs.Booleans.{and-false}
use Rattle.alloc.specs.Block.{Block, size_at, units, units_for}
use Rattle.alloc.specs.Sound.{AllSound, Sound, SoundExtent, end_of, size_of}
use Rattle.alloc.specs.Volume.{Extent, allocated, first_free, free, image, objects, objects_from, volume_of}
use Rattle.alloc.proofs.Cuts.{first_two}
use Rattle.alloc.proofs.Data.{size-at, sound_back, sound-front}
use Rattle.alloc.proofs.Heads.{end-append, end_ge, volume}
use Rattle.alloc.proofs.Soundness.{sound-tiled}
use Rattle.alloc.proofs.Walks.{first-free_le, gap-next, gap-size, sound-first}
use Rattle.history.specs.Claim.{Owner, chain_from, owned, owner_at}
use Rattle.history.proofs.Sums.{sum}
use Rattle.history.proofs.Units.{covers, owns}

-- ---- units from r on, up to e

-- it is there, before them, or behind them
covers_in : (u r e : ℕ) → r ≤ u → u < e → covers u r e ≡ 1
covers_in u r e h k = rw (le-leb r u h, lt-ltb u e k)

covers_low : (u r e : ℕ) → u < r → covers u r e ≡ 0
covers_low u r e h = rw (lt-leb r u h)

covers_high : (u r e : ℕ) → e ≤ u → covers u r e ≡ 0
covers_high u r e h = rw (le-ltb u e h, and-false (leb r u))

-- two stretches that meet are one
covers_join : (u r m e : ℕ) → r ≤ m → m ≤ e → covers u r m + covers u m e ≡ covers u r e
covers_join u r m e a b = go (ltb u m) refl
  where
    low : (x : Bool) → leb r u ≡ x → u < m → covers u r m + covers u m e ≡ covers u r e
    low true q l =
        let k = leb-true r u q in
        omega (arith, covers_in u r m k l, covers_low u m e l, covers_in u r e k (omega arith))
    low false q l =
        let k = leb-false r u q in
        omega (arith, covers_low u r m k, covers_low u m e l, covers_low u r e k)

    high : (x : Bool) → ltb u e ≡ x → m ≤ u → covers u r m + covers u m e ≡ covers u r e
    high true q l =
        let k = ltb-true u e q in
        omega (arith, covers_high u r m l, covers_in u m e l k, covers_in u r e (omega arith) k)
    high false q l =
        let k = ltb-false u e q in
        omega (arith, covers_high u r m l, covers_high u m e k, covers_high u r e k)

    go : (x : Bool) → ltb u m ≡ x → covers u r m + covers u m e ≡ covers u r e
    go true q = low (leb r u) refl (ltb-true u m q)
    go false q = high (ltb u e) refl (ltb-false u m q)

-- no units
covers_none : (u r : ℕ) → covers u r r ≡ 0
covers_none u r = go (leb r u) refl
  where
    go : (x : Bool) → leb r u ≡ x → covers u r r ≡ 0
    go true e = covers_high u r r (leb-true r u e)
    go false e = covers_low u r r (leb-false r u e)

-- ---- the chain, step by step

chain-end : (s : List ℕ) (k : ℕ) → chain_from s k 0 ≡ []
unfolding chain_from
chain-end s zero = refl
chain-end s (suc k) = refl

chain_more : (s : List ℕ) (k r : ℕ) → 0 < r → chain_from s (suc k) r ≡ owner_at s r ∷ chain_from s k (u64_at s (16 * r + 8))
unfolding chain_from
chain_more s k zero h = absurd (omega arith)
chain_more s k (suc r) h = refl

-- one owner more
owned_more : (s : List ℕ) (u r : ℕ) (os : List Owner) → owned u (owner_at s r ∷ os) ≡ covers u r (r + units_for (size_at s r)) + owned u os
unfolding owned
owned_more s u r os = refl

owned_none : (u : ℕ) → owned u [] ≡ 0
unfolding owned
owned_none u = refl

-- extents are no more than their units
extents-few : (r : ℕ) (es : List Extent) → AllSound es → r + length es ≤ end_of r es
unfolding AllSound end_of
extents-few r [] h = omega arith
extents-few r (allocated b ∷ es) h = omega (arith, extents-few (r + units b) es h.1)
extents-few r (free w l ∷ es) h = omega (arith, extents-few (r + w) es h.1, h.0.0)

-- ---- a sound image

module _ {s : List ℕ} (k : Sound s) where
  abbrev all : List Extent
  all = (volume_of s).extents

  -- the rest of the extents, from ref r on
  record Rest (r : ℕ) (es : List Extent) : Type 0 where
    pre : List Extent
    parts : all ≡ pre ++ es
    ref : end_of 2 pre ≡ r

  -- behind the first of them
  rest_on : (r : ℕ) (e : Extent) (es : List Extent) → Rest r (e ∷ es) → Rest (r + size_of e) es
  unfolding end_of
  rest_on r e es w = record {
    pre = w.pre ++ (e ∷ []);
    parts = w.parts ∙ sym (append_assoc w.pre (e ∷ []) es);
    ref = end-append 2 w.pre (e ∷ []) ∙ ap (λ (n : ℕ). n + size_of e) w.ref;
  }

  -- all are sound
  all_sound : (r : ℕ) (es : List Extent) (w : Rest r es) → AllSound (w.pre ++ es)
  all_sound r es w = subst AllSound w.parts k.volume.extents.sound

  -- an image with the extents so split
  rendered_so : (r : ℕ) (es : List Extent) (w : Rest r es) → image (volume (volume_of s).root (w.pre ++ es)) ≡ s
  rendered_so r es w = ap (λ (x : List Extent). image (volume (volume_of s).root x)) (sym w.parts) ∙ k.rendered

  -- an object owns its units
  owns_object : (u r : ℕ) (b : Block) (es : List Extent) → Rest r (allocated b ∷ es) → owns s u (r, b) ≡ covers u r (r + units b)
  unfolding size_at
  owns_object u r b es w =
      ap (λ (n : ℕ). covers u r (r + units_for n))
      (ap (λ (x : List ℕ). u32_at x (16 * r + 4)) (sym k.rendered)
      ∙ size-at (volume_of s) r b k.volume.extents.sound (record { pre = w.pre; post = es; parts = w.parts; ref = w.ref }))

  -- a free block owns its units, and holds the next free ref
  module _ (r v : ℕ) (left : List ℕ) (es : List Extent) (w : Rest r (free v left ∷ es)) where
    pre-sound : AllSound w.pre
    pre-sound = sound-front w.pre (free v left ∷ es) (all_sound r (free v left ∷ es) w)

    free-sound : SoundExtent (free v left)
    unfolding AllSound
    free-sound = (sound_back w.pre (free v left ∷ es) (all_sound r (free v left ∷ es) w)).0

    free-units : units_for (size_at s r) ≡ v
    unfolding size_at
    free-units =
        let e : size_at s r ≡ 16 * v - 8 =
        ap (λ (x : List ℕ). u32_at x (16 * r + 4)) (sym (rendered_so r (free v left ∷ es) w))
        ∙ gap-size (volume_of s).root r v left w.pre es w.ref pre-sound free-sound in
        omega (arith, free-sound.0)

    free-next : u64_at s (16 * r + 8) ≡ first_free (r + v) es
    unfolding end_of
    free-next =
        ap (λ (x : List ℕ). u64_at x (16 * r + 8)) (sym (rendered_so r (free v left ∷ es) w))
        ∙ gap-next (volume_of s).root r v left w.pre es w.ref pre-sound free-sound
        (omega (
          arith,
          first-free_le (r + v) es,
          end-append 2 w.pre (free v left ∷ es),
          ap (λ (n : ℕ). end_of (n + v) es) w.ref,
          ap (end_of 2) w.parts,
          k.volume.extents.small,
        ))

  -- the objects and the chain from ref r on own what is from there on
  rest_owned : (u r m : ℕ) (es : List Extent) → AllSound es → Rest r es → length es ≤ m → 0 < r
      → sum (owns s u) (objects_from r es) + owned u (chain_from s m (first_free r es)) ≡ covers u r (end_of r es)
  unfolding objects_from first_free AllSound end_of
  rest_owned u r m [] h w l p = rw (chain-end s m) (omega (arith, owned_none u, covers_none u r))
  rest_owned u r m (allocated b ∷ es) h w l p =
      omega (
        arith,
        owns_object u r b es w,
        rest_owned u (r + units b) m es h.1 (rest_on r (allocated b) es w) (omega arith) (omega arith),
        covers_join u r (r + units b) (end_of (r + units b) es) (omega arith) (end_ge (r + units b) es),
      )
  rest_owned u r zero (free v left ∷ es) h w l p = absurd (omega arith)
  rest_owned u r (suc m) (free v left ∷ es) h w l p =
      omega (
        arith,
        ap (owned u) (chain_more s m r p),
        owned_more s u r (chain_from s m (u64_at s (16 * r + 8))),
        ap (λ (n : ℕ). covers u r (r + n)) (free-units r v left es w),
        ap (λ (n : ℕ). owned u (chain_from s m n)) (free-next r v left es w),
        rest_owned u (r + v) m es h.1 (rest_on r (free v left) es w) (omega arith) (omega arith),
        covers_join u r (r + v) (end_of (r + v) es) (omega arith) (end_ge (r + v) es),
      )

  -- every unit
  pub owned_once : (u : ℕ) → 16 * u < length s
      → covers u 0 (0 + units_for (size_at s 0)) + sum (owns s u) (objects (volume_of s)) + owned u (chain_from s (length s) (u64_at s 16)) ≡ 1
  unfolding objects end_of
  owned_once u l =
      let n = k.volume.long in
      omega (
        arith,
        ap (covers u 0) (first_two (sound-tiled k)),
        ap (λ (m : ℕ). owned u (chain_from s (length s) m)) (sound-first k),
        rest_owned u 2 (length s) all k.volume.extents.sound (record { pre = []; parts = refl; ref = refl })
            (omega (arith, extents-few 2 all k.volume.extents.sound)) (omega arith),
        covers_join u 0 2 (end_of 2 all) (omega arith) (end_ge 2 all),
        covers_in u 0 (end_of 2 all) (omega arith) (omega arith),
      )

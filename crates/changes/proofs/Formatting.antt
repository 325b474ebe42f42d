-- A new image with a root directory, and format by its tests.
use Prim.Native.Nat.{◌%◌, ◌*◌, ◌+◌, ◌-◌, ◌/◌, ◌<◌, ◌≤◌, ℕ}
use mathlib.Core.Bool.{Bool, ◌&&◌, ◌||◌, false, true}
use mathlib.Core.List.{List, [], ◌∷◌}
use mathlib.Core.Option.{Option, none, some}
use mathlib.Core.Path.{◌∙◌, ◌≡◌, ap, refl, subst, sym}
use native.Mathlib.Omega.{arith}
use lib.Dec.{leb, ltb}
use lib.ListN.{length, length-append, replicate-append-replicate}
use borrow.Author.Tests.{eq-eqb, le-leb, lt-leb, ltb-false, ltb-true}
use Rattle.storage.specs.Bytes.{be64, splice, zeroed}
use Rattle.storage.proofs.Booleans.{and-false, or_elim, or_false}
use Rattle.storage.proofs.Numbers.{length-be64}
use Rattle.storage.proofs.Splice.{splice_at}
use Rattle.alloc.specs.Answers.{Places}
use Rattle.alloc.specs.Block.{Block, SFde, size_at, units}
use Rattle.alloc.specs.Gaps.{tightest}
use Rattle.alloc.specs.Room.{Placed, after_update, blank, empty_volume, one_free, place, updated}
use Rattle.alloc.specs.Sound.{Holds, Object, Sound, SoundVolume}
use Rattle.alloc.specs.Tiling.{length_allowed, other_kind, within}
use Rattle.alloc.specs.Volume.{Extent, Volume, allocated, image, volume_of}
use Rattle.alloc.proofs.Changes.{Renewed}
use Rattle.alloc.proofs.Choosing.{chooses_tightest}
use Rattle.alloc.proofs.Creating.{empty_placed, empty-sound}
use Rattle.alloc.proofs.Cuts.{length-parts}
use Rattle.alloc.proofs.Data.{spliced}
use Rattle.alloc.proofs.Filling.{place_spliced}
use Rattle.alloc.proofs.Releasing.{length-zeroed}
use Rattle.alloc.proofs.Soundness.{image-sound, image-volume}
use Rattle.alloc.proofs.Stages.{PlacedIn, stage_placed, stage_start, stage_unplaced}
use Rattle.calls.specs.declared.refusal.Reason.TheVariants.{BadLength, NoRoom, OutOfBounds}
use Rattle.calls.specs.Refusal.{Accepted, For}
use Rattle.changes.specs.Answers.{Changes, RootFits}
use Rattle.changes.specs.Changing.{format, formatted, new_directory, with_root}
use Rattle.changes.proofs.Storing.{Open, answered, open_image, open_placed, store, store_at}

-- ---- the root

-- a directory of k slots takes k + 1 units
directory-units : (p k : ℕ) → units (new_directory p k) ≡ k + 1
directory-units p k = omega (arith, length-append (be64 p) (zeroed (16 * k)), length-be64 p, length-zeroed (16 * k))

-- and one of 1 to 1,024 slots is an object
pub directory-object : (k : ℕ) → 0 < k → k ≤ 1024 → Object SFde (8 + 16 * k)
unfolding other_kind
directory-object k l h = record {
  kind = rw (eq-eqb ((8 + 16 * k) % 16) 8 (omega arith), le-leb 24 (8 + 16 * k) (omega arith), le-leb (8 + 16 * k) 16392 (omega arith));
  used = λ e. omega arith;
}

-- a directory's parent over zeros
directory-filled : (p k : ℕ) → spliced (blank SFde (8 + 16 * k)) 0 (be64 p) ≡ new_directory p k
directory-filled p k =
    ap (λ (x : List ℕ). record { magic = SFde; body = x })
    (ap (λ (x : List ℕ). splice x 0 (be64 p)) (sym (replicate-append-replicate 8 (16 * k) 0))
    ∙ splice_at [] (zeroed 8) (zeroed (16 * k)) (be64 p) 0 refl (length-be64 p))

-- ---- what is stored into a new image

module _ {n k : ℕ} (f : RootFits n k) {s : List ℕ} (e : s ≡ image (empty_volume n 2)) {z : ℕ} (d : z ≡ 8 + 16 * k) where
  sound_so : SoundVolume n (empty_volume n 2)
  sound_so = empty-sound f.allowed (omega arith)

  volume_so : volume_of s ≡ empty_volume n 2
  volume_so = ap volume_of e ∙ image-volume sound_so

  -- the image is sound
  pub new_sound : Sound s
  new_sound = subst Sound (sym e) (image-sound sound_so)

  first : Renewed s (empty_volume n 2).extents s
  first = subst (λ (v : Volume). Renewed s v.extents s) volume_so (stage_start new_sound)

  placed_so : {o i : Option ℕ} {t : List ℕ} → Places tightest s SFde z o t → o ≡ i → Places tightest s SFde (8 + 16 * k) i t
  placed_so {o} {i} {t} p q = subst (λ (j : Option ℕ). Places tightest s SFde (8 + 16 * k) j t) q (subst (λ (y : ℕ). Places tightest s SFde y o t) d p)

  -- the root finds room
  pub root-fits : {o : Option ℕ} {t : List ℕ} → Places tightest s SFde z o t → o ≡ none → ⊥
  root-fits p q =
      let x = (stage_unplaced first (placed_so p q)).0 in
      let y = empty_placed chooses_tightest (blank SFde (8 + 16 * k)) n 2 (omega (arith, length-zeroed (8 + 16 * k))) (length-parts n f.allowed).0 in
      let c : ◌≡◌ {A = ℕ} 0 1 = cc in
      omega arith

  module _ {o : Option ℕ} {t : List ℕ} (p : Places tightest s SFde z o t) {r : ℕ} (q : o ≡ some r) where
    root_in : PlacedIn tightest s (empty_volume n 2).extents (blank SFde (8 + 16 * k)) r t
    root_in = stage_placed first chooses_tightest (directory-object k f.least f.most) (placed_so p q)

    root_open : Open s r (8 + 16 * k) root_in.placed.extents t
    root_open = open_placed root_in (omega arith) (length-zeroed (8 + 16 * k))

    -- what the store of its parent requires
    pub root_store : Holds t r × (0 + 8 ≤ size_at t r)
    root_store = store_at root_open 0 8 (omega arith)

    -- filled, it is as if it had been placed filled
    filled : ◌≡◌ {A = Placed} (record { at = root_in.placed.at; extents = updated root_in.placed.at 0 (be64 r) 2 root_in.placed.extents })
        (record { at = 2; extents = allocated (new_directory r k) ∷ one_free (n / 16 - 2 - units (new_directory r k)) })
    filled =
        let x =
        place_spliced chooses_tightest (blank SFde (8 + 16 * k)) (empty_volume n 2).extents root_in.placed 0 (be64 r) root_in.places
        (omega (arith, length-be64 r, length-zeroed (8 + 16 * k))) in
        let y = empty_placed chooses_tightest (new_directory r k) n 2 (omega (arith, directory-units r k)) (length-parts n f.allowed).0 in
        let z = ap (λ (b : Block). place tightest b 2 (empty_volume n 2).extents) (directory-filled r k) in
        cc

    -- and the image is the one that format makes
    pub root-done : {u : List ℕ} → u ≡ after_update r 0 (be64 r) t → u ≡ image (formatted n k)
    unfolding formatted empty_volume
    root-done g =
        let es : ℕ → List Extent = λ i. allocated (new_directory i k) ∷ one_free (n / 16 - 2 - units (new_directory i k)) in
        open_image (store root_open 0 (be64 r) (omega (arith, length-be64 r)) g)
        ∙ ap (λ (i : ℕ). image (with_root s (updated i 0 (be64 r) 2 root_in.placed.extents))) (sym root_in.ref)
        ∙ ap (λ (x : Placed). image (with_root s x.extents)) filled
        ∙ ap (λ (v : Volume). image (record { root = v.root; extents = es r })) volume_so
        ∙ ap (λ (i : ℕ). image (record { root = 2; extents = es i })) (sym root_in.ref ∙ ap (λ (x : Placed). x.at) filled)

-- ---- a number and its bounds, by the test of code

module _ (lo hi k : ℕ) where
  pub outside : (ltb k lo || ltb hi k) ≡ true → within lo hi k ≡ false
  outside e =
      or_elim (ltb k lo) (ltb hi k) e (λ q. rw (lt-leb lo k (ltb-true k lo q)))
      (λ q. ap (λ (t : Bool). leb lo k && t) (lt-leb k hi (ltb-true hi k q)) ∙ and-false (leb lo k))

  pub inside : (ltb k lo || ltb hi k) ≡ false → (lo ≤ k) × (k ≤ hi)
  inside e = let q = or_false (ltb k lo) (ltb hi k) e in (ltb-false k lo q.0, ltb-false hi k q.1)

-- ---- format, by its tests

module _ (s : List ℕ) (k : ℕ) where
  pub format-length : length_allowed (length s) ≡ false → Changes (format s k) (For BadLength) s
  unfolding format
  format-length e = answered (rw (e, format))

  module _ (e : length_allowed (length s) ≡ true) where
    pub format-slots : within 1 1024 k ≡ false → Changes (format s k) (For OutOfBounds) s
    unfolding format
    format-slots f = answered (rw (e, f, format))

    module _ (b : (1 ≤ k) × (k ≤ 1024)) where
      pub format-room : length s < 48 + 16 * k → Changes (format s k) (For NoRoom) s
      unfolding format
      format-room h =
          answered
          (rw (e, le-leb 1 k b.0, le-leb k 1024 b.1, lt-leb (32 + 16 * units (new_directory 2 k)) (length s) (omega (arith, directory-units 2 k)), format))

      pub format-done : 48 + 16 * k ≤ length s → {t : List ℕ} → t ≡ image (formatted (length s) k) → Changes (format s k) Accepted t
      unfolding format
      format-done h {t} g =
          subst (Changes (format s k) Accepted) (sym g)
          (answered
          (rw (e, le-leb 1 k b.0, le-leb k 1024 b.1, le-leb (32 + 16 * units (new_directory 2 k)) (length s) (omega (arith, directory-units 2 k)), format)))

-- An accepted format makes a good image, whose book has empty slots.
use Prim.Native.Nat.{◌*◌, ◌+◌, ◌-◌, ◌/◌, ◌≤◌, suc, zero, ℕ}
use mathlib.Core.Bool.{Bool, false, true, true≢false}
use mathlib.Core.List.{List}
use mathlib.Core.Path.{◌∙◌, ◌≡◌, ap, refl, subst, sym}
use native.Mathlib.Omega.{arith}
use lib.Dec.{leb}
use lib.ListN.{length}
use borrow.Author.Tests.{leb-true}
use Rattle.alloc.specs.Block.{units}
use Rattle.alloc.specs.Room.{empty_volume, one_free}
use Rattle.alloc.specs.Sound.{SoundVolume}
use Rattle.alloc.specs.Tiling.{length_allowed, within}
use Rattle.alloc.specs.Volume.{Volume, image, objects, objects_from}
use Rattle.alloc.proofs.Choosing.{chooses_tightest}
use Rattle.alloc.proofs.Placing.{fit}
use Rattle.alloc.proofs.Changes.{fit_sound}
use Rattle.alloc.proofs.Creating.{empty_placed, empty-sound}
use Rattle.alloc.proofs.Cuts.{length-parts}
use Rattle.alloc.proofs.Soundness.{image-length, image-sound, image-volume}
use Rattle.calls.specs.declared.refusal.Reason.TheVariants.{BadLength, NoRoom, OutOfBounds}
use Rattle.calls.specs.Refusal.{For, accepted}
use Rattle.changes.specs.Changing.{Outcome, directory, done, format, formatted, new_directory, unchanged}
use Rattle.history.specs.Book.{empty_slots}
use Rattle.history.proofs.EmptyRow.{empty-book, empty_height, empty_stands, empty-sum, empty_row}
use Rattle.history.proofs.Good.{Good}
use Rattle.history.proofs.NewBlocks.{block-sound, new_node}
use Rattle.history.proofs.Nodes.{Rep}
use Rattle.history.proofs.Refs.{refs_once}
use Rattle.history.proofs.Sums.{Item, sum}

-- its volume is sound, with one object
formatted-sound : (n k : ℕ) → length_allowed n ≡ true → within 1 1024 k ≡ true → 32 + 16 * units (new_directory 2 k) ≤ n → SoundVolume n (formatted n k)
unfolding formatted empty_volume
formatted-sound n k a b l =
    let e = empty_placed chooses_tightest (new_directory 2 k) n 2 l (length-parts n a).0 in
    fit_sound (empty-sound {n = n} {root = 2} a (omega arith)) (new_directory 2 k) _ (block-sound (directory k) 2 b) (fit chooses_tightest (new_directory 2 k) 2 _ _ e)

formatted-sum : (f : Item → ℕ) (n k : ℕ) → sum f (objects (formatted n k)) ≡ f (2, new_directory 2 k)
unfolding formatted objects objects_from
formatted-sum f n k = go (n / 16 - 2 - units (new_directory 2 k))
  where
    go : (u : ℕ) → f (2, new_directory 2 k) + sum f (objects_from (2 + units (new_directory 2 k)) (one_free u)) ≡ f (2, new_directory 2 k)
    go zero = omega arith
    go (suc u) = omega arith

-- the tests of an accepted format
record Passed (s : List ℕ) (k : ℕ) : Type 0 where
  length_so : length_allowed (length s) ≡ true
  slots_so : within 1 1024 k ≡ true
  room_so : 32 + 16 * units (new_directory 2 k) ≤ length s
  image_so : (format s k).image ≡ image (formatted (length s) k)

-- format, by its tests
abbrev pub by_tests : List ℕ → ℕ → Bool → Bool → Bool → Outcome
by_tests s k x y z = elim x [
  | false ↦ unchanged (For BadLength) s
  | true ↦ elim y [ false ↦ unchanged (For OutOfBounds) s | true ↦ elim z [ false ↦ unchanged (For NoRoom) s | true ↦ done (formatted (length s) k) ] ]
]

pub format-is : (s : List ℕ) (k : ℕ) → format s k ≡ by_tests s k (length_allowed (length s)) (within 1 1024 k) (leb (32 + 16 * units (new_directory 2 k)) (length s))
unfolding format
format-is s k = refl

passed : (s : List ℕ) (k : ℕ) → accepted (format s k).refusal ≡ true → Passed s k
passed s k h =
    go (length_allowed (length s)) (within 1 1024 k) (leb (32 + 16 * units (new_directory 2 k)) (length s)) refl refl refl (format-is s k)
  where
    go : (x y z : Bool) → length_allowed (length s) ≡ x → within 1 1024 k ≡ y → leb (32 + 16 * units (new_directory 2 k)) (length s) ≡ z
        → format s k ≡ by_tests s k x y z → Passed s k
    go true true true a b c e = record { length_so = a; slots_so = b; room_so = leb-true _ _ c; image_so = ap (λ (o : Outcome). o.image) e }
    go true true false a b c e = absurd (true≢false (sym h ∙ ap (λ (o : Outcome). accepted o.refusal) e))
    go true false z a b c e = absurd (true≢false (sym h ∙ ap (λ (o : Outcome). accepted o.refusal) e))
    go false y z a b c e = absurd (true≢false (sym h ∙ ap (λ (o : Outcome). accepted o.refusal) e))

formatted-root : (n k : ℕ) → (formatted n k).root ≡ 2
unfolding formatted
formatted-root n k = refl

-- so the image holds the book
pub formatted_good : (s : List ℕ) (k : ℕ) → accepted (format s k).refusal ≡ true → Good (length s) (format s k).image (empty_slots k)
formatted_good s k h =
    let a = passed s k h in
    let n : ℕ = length s in
    let v = formatted-sound n k a.length_so a.slots_so a.room_so in
    let r : Rep (objects (formatted n k)) 2 (new_directory 2 k) (empty_row k) = record {
      alike = λ f. omega (arith, formatted-sum f n k, empty-sum f k);
      once = refs_once (formatted n k);
      top = new_node (directory k) 2 2 (omega arith) (omega arith);
      row = empty_stands 2 k;
      low = omega (arith, empty_height k);
    } in
    subst (λ (u : List ℕ). Good n u (empty_slots k)) (sym a.image_so) (record {
      sound = image-sound v;
      long = image-length v;
      block = new_directory 2 k;
      node = empty_row k;
      rep = subst (λ (w : Volume). Rep (objects w) w.root (new_directory 2 k) (empty_row k)) (sym (image-volume v))
          (subst (λ (i : ℕ). Rep (objects (formatted n k)) i (new_directory 2 k) (empty_row k)) (sym (formatted-root n k)) r);
      book = empty-book k;
    })

-- a refused format changes nothing
pub format-same : (s : List ℕ) (k : ℕ) → accepted (format s k).refusal ≡ false → (format s k).image ≡ s
format-same s k = subst (λ (o : Outcome). accepted o.refusal ≡ false → o.image ≡ s) (sym (format-is s k))
    (go (length_allowed (length s)) (within 1 1024 k) (leb (32 + 16 * units (new_directory 2 k)) (length s)))
  where
    go : (x y z : Bool) → accepted (by_tests s k x y z).refusal ≡ false → (by_tests s k x y z).image ≡ s
    go false y z e = refl
    go true false z e = refl
    go true true false e = refl
    go true true true e = absurd (true≢false e)

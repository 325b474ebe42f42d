-- Stores into an object, as steps of a change; and write and set length, by what they store and by how they begin.
use Prim.Native.Nat.{◌+◌, ◌-◌, ◌<◌, ◌≤◌, max, min, ℕ}
use mathlib.Core.Bool.{Bool, cond, true}
use mathlib.Core.List.{List, [], ◌++◌, ◌∷◌}
use mathlib.Core.Path.{◌∙◌, ◌≡◌, ap, refl, subst, sym}
use native.Mathlib.Omega.{arith}
use lib.ListN.{length}
use borrow.Author.Tests.{le-leb, lt-leb}
use Rattle.storage.specs.Bytes.{be64, zeroed}
use Rattle.storage.proofs.Numbers.{AllBytes, length-be64}
use Rattle.alloc.specs.Block.{Block, size_at}
use Rattle.alloc.specs.Gaps.{Choice}
use Rattle.alloc.specs.Room.{after_update, updated, with_extents}
use Rattle.alloc.specs.Sound.{Holds, Sound}
use Rattle.alloc.specs.Volume.{Extent, block_at, image, objects, objects_from, volume_of}
use Rattle.alloc.proofs.Changes.{Renewed}
use Rattle.alloc.proofs.Cuts.{length-parts}
use Rattle.alloc.proofs.Entries.{placed_here}
use Rattle.alloc.proofs.Filling.{updated-append, updated-kept, updated_none}
use Rattle.alloc.proofs.Held.{holds-size, holds-stands}
use Rattle.alloc.proofs.Releasing.{length-zeroed}
use Rattle.alloc.proofs.Stages.{PlacedIn, stage_holds, stage_image, stage_size, stage_start, stage_updated}
use Rattle.tree.specs.Fields.{file_size, is_file, room}
use Rattle.tree.proofs.Formed.{file-there, formed-file, formed-sound}
use Rattle.calls.specs.declared.refusal.Reason.TheVariants.{IsDirectory, PastRoom}
use Rattle.calls.specs.Refusal.{Accepted, For, Refusal}
use Rattle.calls.specs.Answers.{FileIn}
use Rattle.calls.specs.Reading.{block_in}
use Rattle.calls.specs.Walk.{Start, as_file, reached, refused, start}
use Rattle.calls.proofs.Contents.{file_numbers, room-is}
use Rattle.calls.proofs.Steps.{over_file, reached-file}
use Rattle.changes.specs.Answers.{Changes}
use Rattle.changes.specs.Changing.{Outcome, resized, set_length, set_length_at, set_length_of, stored, unchanged, with_root, write, write_at, write_to, written}

-- ---- stores into one object

-- a stage of a change at which the object at ref r has n bytes
pub record Open (s : List ℕ) (r n : ℕ) (es : List Extent) (t : List ℕ) : Type 0 where
  pub renewed : Renewed s es t
  pub there : 0 < (block_at (objects_from 2 es) r).magic
  pub size : length (block_at (objects_from 2 es) r).body ≡ n

-- a block that was just placed
pub open_placed : {choose : Choice} {s : List ℕ} {es : List Extent} {b : Block} {r : ℕ} {t : List ℕ} (p : PlacedIn choose s es b r t) → 0 < b.magic
    → {n : ℕ} → length b.body ≡ n → Open s r n p.placed.extents t
open_placed {choose} {s} {es} {b} {r} {t} p m l =
    let e : block_at (objects_from 2 p.placed.extents) r ≡ b =
    ap (block_at (objects_from 2 p.placed.extents)) (sym p.ref) ∙ placed_here b es p.placed p.fits in
    record { renewed = p.renewed; there = subst (λ (c : Block). 0 < c.magic) (sym e) m; size = ap (λ (c : Block). length c.body) e ∙ l }

-- an object that holds its place
pub open_held : {s : List ℕ} {r : ℕ} → Holds s r → Open s r (size_at s r) (volume_of s).extents s
unfolding objects
open_held k = record { renewed = stage_start k.sound; there = k.there; size = sym (holds-size k) }

-- a file
pub open_file : {s : List ℕ} → AllBytes s → {r : ℕ} → FileIn s r → Open s r (room (block_in s r) + 16) (volume_of s).extents s
unfolding objects
open_file {s} h {r} f = record {
  renewed = stage_start (formed-sound s h f.formed);
  there = file-there (block_in s r) f.kind;
  size = omega (arith, (formed-file s h f.formed r f.kind).1);
}

-- a file's room is small
pub room_low : {s : List ℕ} → AllBytes s → {r : ℕ} → FileIn s r → room (block_in s r) ≤ 65536
room_low {s} h {r} f = omega (arith, room-is h f, file_numbers h f)

module _ {s : List ℕ} {r n : ℕ} {es : List Extent} {t : List ℕ} (o : Open s r n es t) where
  -- the image then
  pub open_image : t ≡ image (with_root s es)
  unfolding with_extents
  open_image = stage_image o.renewed

  -- what a store of m bytes at p requires
  pub store_at : (p m : ℕ) → p + m ≤ n → Holds t r × (p + m ≤ size_at t r)
  store_at p m l = (stage_holds o.renewed r o.there, omega (arith, stage_size o.renewed r o.there, o.size))

  module _ (p : ℕ) (x : List ℕ) (l : p + length x ≤ n) where
    inside : p + length x ≤ length (block_at (objects_from 2 es) r).body
    inside = omega (arith, o.size)

    -- the stage after it, of every object
    pub store_other : {u : List ℕ} → u ≡ after_update r p x t → {q m : ℕ} → Open s q m es t → Open s q m (updated r p x 2 es) u
    store_other e {q} w =
        let k = updated-kept r p x es o.there inside q in
        record {
          renewed = stage_updated o.renewed r p x o.there inside e;
          there = subst (λ (i : ℕ). 0 < i) (sym k.0) w.there;
          size = k.1 ∙ w.size;
        }

    pub store : {u : List ℕ} → u ≡ after_update r p x t → Open s r n (updated r p x 2 es) u
    store e = store_other e o

-- no bytes stored change nothing
pub store_none : {s : List ℕ} → Sound s → (r p : ℕ) → s ≡ after_update r p [] s
unfolding after_update with_extents
store_none {s} k r p = sym k.rendered ∙ ap (λ (es : List Extent). image (with_root s es)) (sym (updated_none r p 2 (volume_of s).extents))

-- an object is no larger than the image
pub held_low : {s : List ℕ} {r : ℕ} → Holds s r → size_at s r < 18446744073709551616
held_low {s} k = omega (arith, (holds-stands k).standing.fits, length-parts (length s) k.sound.volume.allowed)

-- two stores that touch
pub store_both : {s : List ℕ} {r n : ℕ} {es : List Extent} {t : List ℕ} → Open s r n es t → (p : ℕ) (x : List ℕ) {q : ℕ} (y : List ℕ) → p + length x ≡ q → q + length y ≤ n
    → {u v : List ℕ} → u ≡ after_update r p x t → v ≡ after_update r q y u → Open s r n (updated r p (x ++ y) 2 es) v
store_both {s} {r} {n} {es} o p x {q} y f m {u} {v} e g =
    subst (λ (fs : List Extent). Open s r n fs v)
    (ap (λ (i : ℕ). updated r i y 2 (updated r p x 2 es)) (sym f) ∙ updated-append r p x y es o.there (omega (arith, o.size)))
    (store (store o p x (omega arith) e) q y m g)

-- ---- answers

-- of a known outcome
pub answered : {o : Outcome} {n : Refusal} {t : List ℕ} → o ≡ record { refusal = n; image = t } → Changes o n t
answered e = record { refusal_is = sym (ap (λ (x : Outcome). x.refusal) e); image-is = sym (ap (λ (x : Outcome). x.image) e) }

-- by a test
chosen : (t : Bool) (a b : Outcome) → t ≡ true → {n : Refusal} {u : List ℕ} → Changes a n u → Changes (cond t a b) n u
chosen t a b e {n} {u} c = subst (λ (q : Bool). Changes (cond q a b) n u) (sym e) c

-- ---- a file's bytes

module _ {s : List ℕ} (h : AllBytes s) {r : ℕ} (f : FileIn s r) where
  -- the size, after bytes x over the content
  size-stored : (from size : ℕ) (x : List ℕ) {t u : List ℕ} → Open s r (room (block_in s r) + 16) (updated r (16 + from) x 2 (volume_of s).extents) t
      → u ≡ after_update r 0 (be64 size) t → u ≡ image (stored s r size from x)
  size-stored from size x o e = open_image (store o 0 (be64 size) (omega (arith, length-be64 size)) e)

  module _ {z : ℕ} (e : z ≡ file_size (block_in s r)) where
    -- a gap of zeros, then bytes; then the size
    module _ (position : ℕ) (bytes : List ℕ) {from : ℕ} (g : from ≡ min position z) (l : position + length bytes ≤ room (block_in s r)) {t : List ℕ}
        (et : t ≡ after_update r (16 + from) (zeroed (position - from)) s) where
      -- after the gap
      pub gap_open : Open s r (room (block_in s r) + 16) (updated r (16 + from) (zeroed (position - from)) 2 (volume_of s).extents) t
      gap_open = store (open_file h f) (16 + from) (zeroed (position - from)) (omega (arith, length-zeroed (position - from))) et

      module _ {u : List ℕ} (eu : u ≡ after_update r (16 + position) bytes t) where
        -- after the bytes
        pub bytes_open : Open s r (room (block_in s r) + 16) (updated r (16 + from) (zeroed (position - from) ++ bytes) 2 (volume_of s).extents) u
        bytes_open = store_both (open_file h f) (16 + from) (zeroed (position - from)) bytes (omega (arith, length-zeroed (position - from))) (omega arith) et eu

        -- after the size
        pub written-done : 0 < length bytes → {size : ℕ} → size ≡ max z (position + length bytes) → {v : List ℕ} → v ≡ after_update r 0 (be64 size) u → Changes
            (written s r position bytes) Accepted v
        written-done p {size} d {v} ev =
            by_bytes bytes p
            (size-stored from size (zeroed (position - from) ++ bytes) bytes_open ev
            ∙ ap (λ (m : ℕ). image (stored s r m from (zeroed (position - from) ++ bytes))) d
            ∙ ap (λ (k : ℕ). image (stored s r (max z (position + length bytes)) k (zeroed (position - k) ++ bytes))) g
            ∙ ap (λ (m : ℕ). image (stored s r (max m (position + length bytes)) (min position m) (zeroed (position - min position m) ++ bytes))) e)
          where
            by_bytes : (y : List ℕ) → 0 < length y
                → v ≡ image (stored s r (max (file_size (block_in s r)) (position + length y)) (min position (file_size (block_in s r)))
                (zeroed (position - min position (file_size (block_in s r))) ++ y))
                → Changes (written s r position y) Accepted v
            by_bytes [] q w = absurd (omega arith)
            by_bytes (y ∷ ys) q w = record { refusal_is = refl; image-is = w }

    -- zeros between the old end and the new; then the size
    module _ (size : ℕ) {from to : ℕ} (g : from ≡ min size z) (k : to ≡ max size z) (l : size ≤ room (block_in s r)) where
      -- they lie within the data
      pub cut_inside : 16 + from + (to - from) ≤ room (block_in s r) + 16
      cut_inside = omega (arith, e, g, (formed-file s h f.formed r f.kind).0)

      module _ {t : List ℕ} (et : t ≡ after_update r (16 + from) (zeroed (to - from)) s) where
        -- after the zeros
        pub cut_open : Open s r (room (block_in s r) + 16) (updated r (16 + from) (zeroed (to - from)) 2 (volume_of s).extents) t
        cut_open = store (open_file h f) (16 + from) (zeroed (to - from)) (omega (arith, length-zeroed (to - from), cut_inside)) et

        -- after the size
        pub resized-done : {v : List ℕ} → v ≡ after_update r 0 (be64 size) t → Changes (resized s r size) Accepted v
        resized-done {v} ev = record {
          refusal_is = refl;
          image-is =
              size-stored from size (zeroed (to - from)) cut_open ev
              ∙ ap (λ (m : ℕ). image (stored s r size from (zeroed (m - from)))) k
              ∙ ap (λ (m : ℕ). image (stored s r size m (zeroed (max size z - m)))) g
              ∙ ap (λ (m : ℕ). image (stored s r size (min size m) (zeroed (max size m - min size m)))) e;
        }

-- 12, or within the room; no bytes change nothing
module _ (s : List ℕ) (r position : ℕ) (bytes : List ℕ) where
  pub write_past : room (block_in s r) < position + length bytes → Changes (write_to s r position bytes) (For PastRoom) s
  write_past l = rw (lt-leb (position + length bytes) (room (block_in s r)) l) (record { refusal_is = refl; image-is = refl })

  module _ (l : position + length bytes ≤ room (block_in s r)) where
    pub write-within : {t : List ℕ} → Changes (written s r position bytes) Accepted t → Changes (write_to s r position bytes) Accepted t
    write-within c = rw (le-leb (position + length bytes) (room (block_in s r)) l) c

    pub write_none : length bytes ≡ 0 → Changes (write_to s r position bytes) Accepted s
    write_none e = write-within (go bytes e)
      where
        go : (y : List ℕ) → length y ≡ 0 → Changes (written s r position y) Accepted s
        go [] q = record { refusal_is = refl; image-is = refl }
        go (y ∷ ys) q = absurd (omega arith)

module _ (s : List ℕ) (r size : ℕ) where
  pub resize_past : room (block_in s r) < size → Changes (set_length_of s r size) (For PastRoom) s
  resize_past l = rw (lt-leb size (room (block_in s r)) l) (record { refusal_is = refl; image-is = refl })

  pub resize_within : size ≤ room (block_in s r) → {t : List ℕ} → Changes (resized s r size) Accepted t → Changes (set_length_of s r size) Accepted t
  resize_within l c = rw (le-leb size (room (block_in s r)) l) c

-- ---- the calls on a file, by how they begin

-- what a call does to the file at a ref, where it reaches one
abbrev pub filed : List ℕ → (ℕ → Outcome) → Start → Outcome
filed s to (refused n) = unchanged n s
filed s to (reached r) = cond (is_file (block_in s r)) (to r) (unchanged (For IsDirectory) s)

module _ (s path : List ℕ) (to : ℕ → Outcome) where
  begun : {x : Start} → x ≡ as_file s (start s path true) → {n : Refusal} {t : List ℕ} → Changes (filed s to x) n t → Changes (filed s to (start s path true)) n t
  begun e {n} {t} = subst (λ (o : Outcome). Changes o n t) (ap (filed s to) e ∙ over_file s (filed s to) to (λ r. refl) (start s path true))

  -- nothing reached
  pub file-refused : {n : Refusal} → refused n ≡ as_file s (start s path true) → Changes (filed s to (start s path true)) n s
  file-refused e = begun e (answered refl)

  -- a file
  pub file-reached : {r : ℕ} → reached r ≡ as_file s (start s path true) → {n : Refusal} {t : List ℕ} → Changes (to r) n t → Changes (filed s to (start s path true)) n t
  file-reached {r} e c = begun e (chosen (is_file (block_in s r)) (to r) (unchanged (For IsDirectory) s) (reached-file s _ r e).1 c)

-- write and set length are such calls
pub write-is : (s path : List ℕ) (position : ℕ) (bytes : List ℕ) {n : Refusal} {t : List ℕ} → Changes (filed s (λ r. write_to s r position bytes) (start s path true)) n t
    → Changes (write s path position bytes) n t
unfolding write
write-is s path position bytes {n} {t} c = subst (λ (o : Outcome). Changes o n t) (go (start s path true)) c
  where
    go : (x : Start) → filed s (λ r. write_to s r position bytes) x ≡ write_at s position bytes x
    go (refused n) = refl
    go (reached r) = refl

pub set-length-is : (s path : List ℕ) (size : ℕ) {n : Refusal} {t : List ℕ} → Changes (filed s (λ r. set_length_of s r size) (start s path true)) n t → Changes (set_length s path size) n t
unfolding set_length
set-length-is s path size {n} {t} c = subst (λ (o : Outcome). Changes o n t) (go (start s path true)) c
  where
    go : (x : Start) → filed s (λ r. set_length_of s r size) x ≡ set_length_at s size x
    go (refused n) = refl
    go (reached r) = refl

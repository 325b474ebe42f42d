-- Removing: a slot emptied, and what it named freed.
use Prim.Native.Nat.{◌*◌, ◌+◌, ◌<◌, ◌≤◌, ℕ}
use mathlib.Core.Bool.{Bool, false, not, true}
use mathlib.Core.List.{List, ◌++◌}
use mathlib.Core.Logic.{◌⊎◌, inl, inr}
use mathlib.Core.Option.{none, some}
use mathlib.Core.Path.{◌∙◌, ◌≡◌, ap, refl, subst, sym}
use native.Mathlib.Omega.{arith}
use lib.Dec.{eqb}
use lib.ListN.{length}
use borrow.Author.Tests.{eqb-true}
use Rattle.storage.specs.Bytes.{be64}
use Rattle.storage.proofs.Booleans.{and_true}
use Rattle.storage.proofs.Numbers.{AllBytes}
use Rattle.alloc.specs.Block.{Block, SFde, SFna, SFre, size_at}
use Rattle.alloc.specs.Room.{after_release, after_update, released, with_extents}
use Rattle.alloc.specs.Sound.{Holds}
use Rattle.alloc.specs.Volume.{Extent, block_at, image, objects, objects_from, volume_of}
use Rattle.alloc.proofs.Changes.{Renewed}
use Rattle.alloc.proofs.Data.{found}
use Rattle.alloc.proofs.Entries.{released-other}
use Rattle.alloc.proofs.Order.{release_order}
use Rattle.alloc.proofs.Stages.{stage_holds, stage_image, stage_released, stage_start}
use Rattle.tree.specs.Fields.{Slot, is_dir, is_file, slot_at, slots, taken, taken_count}
use Rattle.tree.proofs.Formed.{Filled, dir_there, file-there, formed_dir, formed-sound, formed-taken, name-there}
use Rattle.tree.proofs.Indexed.{slots-other}
use Rattle.calls.specs.declared.refusal.Reason.TheVariants.{IsRoot, NotEmpty, NotFound}
use Rattle.calls.specs.Refusal.{Accepted, For, Refusal}
use Rattle.calls.specs.Answers.{DirectoryIn, ObjectAt}
use Rattle.calls.specs.Reading.{block_in}
use Rattle.calls.specs.Walk.{Start, last_name, reached, refused, slot_named, start_above}
use Rattle.calls.proofs.Lowest.{found-slot}
use Rattle.calls.proofs.Stands.{slot-object}
use Rattle.changes.specs.Answers.{Changes, TakenSlot}
use Rattle.changes.specs.Changing.{remove, remove_at, remove_in, removed, set_slot}
use Rattle.changes.proofs.Making.{slot-length}
use Rattle.changes.proofs.Storing.{Open, store_at, store_other}

-- ---- what holds something

pub holds_none : (b : Block) → is_dir b ≡ false → false ≡ not (eqb (taken_count (slots b)) 0)
unfolding taken_count
holds_none b e = sym (ap (λ (ss : List Slot). not (eqb (taken_count ss) 0)) (slots-other b e))

-- ---- the slot emptied, the name freed, the object freed

module _ {s : List ℕ} (h : AllBytes s) {d i : ℕ} (k : TakenSlot s d i) where
  abbrev es : List Extent
  es = (volume_of s).extents

  abbrev x : Slot
  x = slot_at (block_in s d) i

  filled : Filled (objects (volume_of s)) x
  filled = formed-taken s h k.directory.formed d k.directory.kind i k.slot k.is-taken

  -- the objects that are written to and freed
  open_at : (r : ℕ) → 0 < (block_in s r).magic → Open s r (length (block_in s r).body) es s
  unfolding objects
  open_at r p = record { renewed = stage_start (formed-sound s h k.directory.formed); there = p; size = refl }

  directory_open : Open s d (length (block_in s d).body) es s
  directory_open = open_at d (dir_there (block_in s d) k.directory.kind)

  slot-fits : 24 + 16 * i ≤ length (block_in s d).body
  slot-fits = omega (arith, (formed_dir s h k.directory.formed d k.directory.kind).0, k.slot)

  pub clear_slot : Holds s d × (24 + 16 * i ≤ size_at s d)
  clear_slot = let q = store_at directory_open (8 + 16 * i) 16 (omega (arith, slot-fits)) in (q.0, omega (arith, q.1))

  object-there : 0 < (block_in s x.1).magic
  object-there = go filled.kind
    where
      go : (is_file (block_in s x.1) ≡ true) ⊎ (is_dir (block_in s x.1) ≡ true) → 0 < (block_in s x.1).magic
      go (inl e) = file-there (block_in s x.1) e
      go (inr e) = dir_there (block_in s x.1) e

  -- a name is no object
  apart : x.0 ≡ x.1 → ⊥
  apart e = go filled.kind
    where
      name-magic : (block_in s x.1).magic ≡ SFna
      name-magic = ap (λ (r : ℕ). (block_in s r).magic) (sym e) ∙ eqb-true (block_in s x.0).magic SFna filled.is_name

      go : (is_file (block_in s x.1) ≡ true) ⊎ (is_dir (block_in s x.1) ≡ true) → ⊥
      go (inl f) = omega (arith, name-magic, eqb-true (block_in s x.1).magic SFre f)
      go (inr f) = omega (arith, name-magic, eqb-true (block_in s x.1).magic SFde f)

  module _ {y : Slot} (q : y ≡ x) {t1 : List ℕ} (e1 : t1 ≡ after_update d (8 + 16 * i) (be64 0 ++ be64 0) s) where
    abbrev emptied : List Extent
    emptied = set_slot d i 0 0 es

    -- one object, after the slot is empty
    after-slot : {r m : ℕ} → Open s r m es s → Open s r m emptied t1
    after-slot = store_other directory_open (8 + 16 * i) (be64 0 ++ be64 0) (omega (arith, slot-length 0 0, slot-fits)) e1

    name_open : Open s x.0 (length (block_in s x.0).body) emptied t1
    name_open = after-slot (open_at x.0 (name-there (block_in s x.0) filled.is_name))

    pub clear_name : Holds t1 y.0
    clear_name = subst (λ (z : Slot). Holds t1 z.0) (sym q) (stage_holds name_open.renewed x.0 name_open.there)

    object-left : 0 < (block_at (objects_from 2 (released x.0 emptied)) x.1).magic
    object-left =
        subst (λ (b : Block). 0 < b.magic) (sym (released-other x.0 _ emptied (found 2 x.0 emptied name_open.there) x.1 apart))
        (after-slot (open_at x.1 object-there)).there

    module _ {t2 : List ℕ} (e2 : t2 ≡ after_release y.0 t1) where
      freed_stage : Renewed s (released x.0 emptied) t2
      freed_stage = stage_released name_open.renewed x.0 name_open.there (e2 ∙ ap (λ (z : Slot). after_release z.0 t1) q)

      pub clear_object : Holds t2 y.1
      clear_object = subst (λ (z : Slot). Holds t2 z.1) (sym q) (stage_holds freed_stage x.1 object-left)

      pub clear_done : {t3 : List ℕ} → t3 ≡ after_release y.1 t2 → t3 ≡ image (removed s d i)
      unfolding with_extents
      clear_done {t3} e3 = stage_image (stage_released freed_stage x.1 object-left (e3 ∙ ap (λ (z : Slot). after_release z.1 t2) q))

  -- the object may be freed before the name
  pub freed_either : after_release x.0 (after_release x.1 (after_update d (8 + 16 * i) (be64 0 ++ be64 0) s)) ≡ image (removed s d i)
  freed_either =
      let o = after-slot refl refl (open_at x.1 object-there) in
      release_order apart (clear_name refl refl) (stage_holds o.renewed x.1 o.there) ∙ clear_done refl refl refl refl

-- ---- from a directory

module _ (s w : List ℕ) (d : ℕ) where
  pub remove-missing : none ≡ slot_named (objects (volume_of s)) (block_in s d) w → Changes (remove_in s w d) (For NotFound) s
  unfolding remove_in
  remove-missing e = rw (sym e, remove_in) (record { refusal_is = refl; image-is = refl })

  module _ (i : ℕ) (e : some i ≡ slot_named (objects (volume_of s)) (block_in s d) w) {o : ℕ} (f : o ≡ (slot_at (block_in s d) i).1) {t : Bool}
      (g : t ≡ not (eqb (taken_count (slots (block_in s o))) 0)) where
    holder : eqb (taken_count (slots (block_in s (slot_at (block_in s d) i).1))) 0 ≡ not t
    holder =
        ap (λ (r : ℕ). eqb (taken_count (slots (block_in s r))) 0) (sym f)
        ∙ sym (not_not (eqb (taken_count (slots (block_in s o))) 0))
        ∙ ap not (sym g)
      where
        not_not : (b : Bool) → not (not b) ≡ b
        not_not true = refl
        not_not false = refl

    pub remove-held : t ≡ true → Changes (remove_in s w d) (For NotEmpty) s
    unfolding remove_in
    remove-held q = rw (sym e, remove_in) (rw (holder ∙ ap not q) (record { refusal_is = refl; image-is = refl }))

    pub remove_cleared : t ≡ false → (u : List ℕ) → u ≡ image (removed s d i) → Changes (remove_in s w d) Accepted u
    unfolding remove_in
    remove_cleared q u p = rw (sym e, remove_in) (rw (holder ∙ ap not q) (record { refusal_is = refl; image-is = p }))

-- a slot that was found by its name is taken
pub found-taken : {s : List ℕ} {d i : ℕ} (w : List ℕ) → DirectoryIn s d → some i ≡ slot_named (objects (volume_of s)) (block_in s d) w → TakenSlot s d i
found-taken {s} {d} {i} w k e =
    let x = found-slot _ (block_in s d) i (sym e) in
    record { directory = k; slot = x.0; is-taken = (and_true (taken (slot_at (block_in s d) i)) _ x.1).0 }

-- what it names is an object
pub taken-object : {s : List ℕ} → AllBytes s → {d i : ℕ} → TakenSlot s d i → {x : Slot} → x ≡ slot_at (block_in s d) i → ObjectAt s x.1
taken-object {s} h k e = subst (λ (y : Slot). ObjectAt s y.1) (sym e) (slot-object h k.directory _ k.slot k.is-taken)

-- ---- on a path

module _ (s path : List ℕ) where
  gone : (x : Start) → x ≡ start_above s path true IsRoot → (n : Refusal) (t : List ℕ) → Changes (remove_at s (last_name path) x) n t → Changes (remove s path) n t
  unfolding remove
  gone x e n t c = subst (λ (y : Start). Changes (remove_at s (last_name path) y) n t) e c

  pub remove-refused : (n : Refusal) → refused n ≡ start_above s path true IsRoot → Changes (remove s path) n s
  remove-refused n e = gone (refused n) e n s (record { refusal_is = refl; image-is = refl })

  pub remove-reached : (d : ℕ) → reached d ≡ start_above s path true IsRoot → (w : List ℕ) → w ≡ last_name path → (n : Refusal) (t : List ℕ)
      → Changes (remove_in s w d) n t → Changes (remove s path) n t
  remove-reached d e w f n t c = gone (reached d) e n t (subst (λ (v : List ℕ). Changes (remove_in s v d) n t) f c)

-- The lines of what an object holds: slot after slot.
use Prim.Native.Nat.{◌+◌, ◌-◌, ◌<◌, ◌≤◌, suc, zero, ℕ}
use mathlib.Core.Bool.{Bool, cond, false, true}
use mathlib.Core.List.{List, [], ◌++◌, ◌∷◌}
use mathlib.Core.Path.{◌∙◌, ◌≡◌, ap, refl, subst, sym}
use native.Mathlib.Nat.{sub-zero}
use native.Mathlib.Numerals.{add-one}
use native.Mathlib.Omega.{arith}
use lib.ListN.{length, length-append}
use Rattle.storage.proofs.Numbers.{AllBytes}
use Rattle.alloc.specs.Block.{Block}
use Rattle.alloc.specs.Volume.{Objects, block_at, objects, volume_of}
use Rattle.tree.specs.Answers.{slot_of}
use Rattle.tree.specs.declared.fields.Slot as declared-slot
use Rattle.tree.specs.Fields.{Slot, is_dir, slot_at, slots, slots_from, taken, total}
use Rattle.tree.proofs.Rows.{slot-inside as inside-directory}
use Rattle.calls.specs.Answers.{DirectoryIn, ObjectAt}
use Rattle.calls.specs.Reading.{block_in}
use Rattle.calls.proofs.Stands.{slot_here, slot-object}
use Rattle.listing.specs.declared.lines.Node.{Node}
use Rattle.listing.specs.Held.{held_lines, slot_count}
use Rattle.listing.specs.Nodes.{ChildOf, child_of, levels, lines_at, lines_in, slot_in}
use Rattle.history.specs.Listing.{Line, line_of, object_lines, slot_lines}

pub pred_suc : (k : ℕ) → suc k - 1 ≡ k
pred_suc k = omega arith

-- ---- the slots from one on

module _ (os : Objects) (r d levels j : ℕ) where
  pub held_none : slot_count levels (block_at os r) ≤ j → held_lines levels os r d j ≡ []
  unfolding slots_from slot_lines
  held_none h =
      let q : slot_count levels (block_at os r) - j ≡ 0 = omega arith in
      ap (λ (v : ℕ). slot_lines (λ m o. object_lines (levels - 1) os o r m (d + 1)) (slots_from (block_at os r) j v)) q

  module _ (h : j < slot_count levels (block_at os r)) {x : Slot} (y : x ≡ slot_at (block_at os r) j) where
    held-slot : held_lines levels os r d j
        ≡ cond (taken x) (object_lines (levels - 1) os x.1 r x.0 (d + 1) ++ held_lines levels os r d (j + 1)) (held_lines levels os r d (j + 1))
    unfolding slots_from slot_lines
    held-slot =
        let q : slot_count levels (block_at os r) - j ≡ suc (slot_count levels (block_at os r) - (j + 1)) = omega arith in
        ap (λ (v : ℕ). row (slots_from (block_at os r) j v)) q
        ∙ ap (λ (v : Slot). row (v ∷ slots_from (block_at os r) (j + 1) (slot_count levels (block_at os r) - (j + 1)))) (sym y)
      where
        row : List Slot → List Line
        row = slot_lines (λ m o. object_lines (levels - 1) os o r m (d + 1))

    pub held-empty : taken x ≡ false → held_lines levels os r d j ≡ held_lines levels os r d (j + 1)
    held-empty z = held-slot ∙ rw z

    pub held-taken : taken x ≡ true → held_lines levels os r d j ≡ object_lines (levels - 1) os x.1 r x.0 (d + 1) ++ held_lines levels os r d (j + 1)
    held-taken t = held-slot ∙ rw t

-- ---- an object: its own line, and what its slots hold

all_slots : (b : Block) (k : ℕ) → slots b ≡ slots_from b 0 (slot_count (suc k) b - 0)
unfolding slots slot_count slots_from
all_slots b k = go (is_dir b)
  where
    go : (t : Bool) → cond t (slots_from b 0 (total b)) [] ≡ slots_from b 0 (cond t (total b) 0 - 0)
    go true = ap (slots_from b 0) (sym (sub-zero (total b)))
    go false = refl

module _ (os : Objects) (r up n d levels : ℕ) where
  pub own_first : object_lines levels os r up n d ≡ line_of r up n d (block_at os r) ∷ held_lines levels os r d 0
  unfolding object_lines slot_lines slot_count slots_from
  own_first = go levels
    where
      go : (k : ℕ) → object_lines k os r up n d ≡ line_of r up n d (block_at os r) ∷ held_lines k os r d 0
      go zero = refl
      go (suc k) =
          ap (λ (v : List Slot). line_of r up n d (block_at os r) ∷ slot_lines (λ m o. object_lines k os o r m (suc d)) v) (all_slots (block_at os r) k)
          ∙ ap (λ (v : ℕ). line_of r up n d (block_at os r) ∷ slot_lines (λ m o. object_lines k os o r m v) (slots_from (block_at os r) 0 (slot_count (suc k) (block_at os r) - 0))) (sym (add-one d))
          ∙ ap (λ (v : ℕ). line_of r up n d (block_at os r) ∷ slot_lines (λ m o. object_lines v os o r m (d + 1)) (slots_from (block_at os r) 0 (slot_count (suc k) (block_at os r) - 0)))
          (sym (pred_suc k))

-- ---- where slots are gone through there is a directory, with levels below it

counted-directory : (levels : ℕ) (b : Block) {j : ℕ} → j < slot_count levels b → (is_dir b ≡ true) × (0 < levels) × (slot_count levels b ≡ total b)
unfolding slot_count
counted-directory levels b {j} h = go levels (is_dir b) refl h
  where
    go : (k : ℕ) (t : Bool) → is_dir b ≡ t → j < slot_count k b → (is_dir b ≡ true) × (0 < k) × (slot_count k b ≡ total b)
    go zero t e h = absurd (omega arith)
    go (suc k) true e h = (e, omega arith, rw e)
    go (suc k) false e h = let z : j < 0 = rw e at h in absurd (omega arith)

pub count_none : (b : Block) (levels : ℕ) → levels ≡ 0 → 0 ≡ slot_count levels b
unfolding slot_count
count_none b zero e = refl
count_none b (suc k) e = absurd (omega arith)

pub count-file : (b : Block) (levels : ℕ) → is_dir b ≡ false → 0 ≡ slot_count levels b
unfolding slot_count
count-file b zero e = refl
count-file b (suc k) e = sym (rw e)

pub count_all : (b : Block) (levels : ℕ) → (levels ≡ 0 → ⊥) → is_dir b ≡ true → total b ≡ slot_count levels b
unfolding slot_count
count_all b zero h e = absurd (h refl)
count_all b (suc k) h e = sym (rw e)

-- ---- a slot that is gone through

pub directory-here : {s : List ℕ} {r : ℕ} → ObjectAt s r → is_dir (block_in s r) ≡ true → DirectoryIn s r
directory-here o e = record { formed = o.formed; kind = e }

module _ {s : List ℕ} (b : AllBytes s) (d : Node) (o : ObjectAt s d.at.0) (j : ℕ) (h : j < slot_count (levels d.depth) (block_in s d.at.0)) where
  -- it lies in a directory
  pub slot-inside : DirectoryIn s d.at.0 × (j < total (block_in s d.at.0))
  slot-inside =
      let c = counted-directory (levels d.depth) (block_in s d.at.0) h in
      (directory-here o c.0, omega (arith, c.2))

  pub slot-low : d.depth < 16
  slot-low = omega (arith, (counted-directory (levels d.depth) (block_in s d.at.0) h).1)

  pub slot_few : j < 1024
  slot_few = let a = slot_here b slot-inside.0 j slot-inside.1 in (inside-directory a.0 j a.1).1

  -- the object that it names, where it is taken
  module _ {c : declared-slot.Slot} (q : slot_of c ≡ slot_in s d j) (e : taken (slot_of c) ≡ true) where
    taken-here : taken (slot_in s d j) ≡ true
    taken-here = ap taken (sym q) ∙ e

    pub child-object : ObjectAt s c.object.0
    child-object = subst (λ (v : Slot). ObjectAt s v.1) (sym q) (slot-object b slot-inside.0 j slot-inside.1 taken-here)

    pub child-is : ChildOf s d j s (child_of d (slot_of c))
    child-is = record { same_image = refl; is-taken = taken-here; node-is = ap (child_of d) q }

-- ---- the lines of the slots from one on

-- an empty slot holds no line
pub empty-lines : (s : List ℕ) (d : Node) {j : ℕ} → j < slot_count (levels d.depth) (block_in s d.at.0) → taken (slot_in s d j) ≡ false → lines_in s d j ≡ lines_in s d (j + 1)
empty-lines s d {j} h e = held-empty (objects (volume_of s)) d.at.0 d.depth (levels d.depth) j h refl e

-- a taken one those of its object
module _ {s : List ℕ} {d : Node} {j : ℕ} {t : List ℕ} {x : Node} (c : ChildOf s d j t x) where
  pub deeper : x.depth ≡ d.depth + 1
  deeper = ap (λ (y : Node). y.depth) c.node-is

  pub child-levels : levels d.depth - 1 ≡ levels x.depth
  child-levels = omega (arith, deeper)

  module _ (h : j < slot_count (levels d.depth) (block_in s d.at.0)) where
    pub below : levels x.depth + 1 ≡ levels d.depth
    below = omega (arith, deeper, (counted-directory (levels d.depth) (block_in s d.at.0) h).1)

    pub child-lines : lines_in s d j ≡ lines_at t x ++ lines_in s d (j + 1)
    child-lines =
        held-taken (objects (volume_of s)) d.at.0 d.depth (levels d.depth) j h refl c.is-taken
        ∙ rw (child-levels, c.same_image, c.node-is)

    -- where those have room its object's have
    pub child-room : (at m : ℕ) → at + length (lines_in s d j) ≤ m → at + length (lines_at t x) ≤ m
    child-room at m k = omega (arith, ap length child-lines, length-append (lines_at t x) (lines_in s d (j + 1)))

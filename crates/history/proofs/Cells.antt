-- A directory's block with one slot set: its other slots and its parent stay.
use Prim.Native.Nat.{◌*◌, ◌+◌, ◌-◌, ◌/◌, ◌<◌, ◌≤◌, suc, zero, ℕ}
use mathlib.Core.Bool.{true}
use mathlib.Core.List.{List, [], ◌++◌, ◌∷◌, append-nil}
use mathlib.Core.Path.{◌∙◌, ◌≡◌, ap, ap₂, refl, sym}
use native.Mathlib.Nat.{zero-add}
use native.Mathlib.Omega.{arith}
use lib.ListN.{get_or, length, set}
use Rattle.changes.proofs.Making.{slot-length}
use Rattle.storage.specs.Bytes.{be64, splice, u64_at}
use Rattle.storage.proofs.Numbers.{be64-read, length-be64, u64_agree, u64_before, u64_behind, u64_right}
use Rattle.storage.proofs.Splice.{length-splice, splice-inside}
use Rattle.alloc.specs.Block.{Block}
use Rattle.alloc.proofs.Data.{spliced}
use Rattle.tree.specs.Fields.{Slot, is_dir, parent, slot_at, slots, slots_from, total}
use Rattle.tree.proofs.Indexed.{slots_dir}
use Rattle.history.proofs.Nodes.{DirNode, Node, slots_of}
use Rattle.history.proofs.Walks.{total-row}

-- slot i of a directory with these refs in it
abbrev pub slotted : Block → ℕ → ℕ → ℕ → Block
slotted b i n o = spliced b (8 + 16 * i) (be64 n ++ be64 o)

module _ (b : Block) (i n o : ℕ) (inside : i < total b) where
  fits : 8 + 16 * i + length (be64 n ++ be64 o) ≤ length b.body
  fits = omega (arith, slot-length n o)

  -- the size stays, and the parent
  pub slotted_length : length (slotted b i n o).body ≡ length b.body
  slotted_length = length-splice b.body (be64 n ++ be64 o) (8 + 16 * i) fits

  pub slotted_parent : parent (slotted b i n o) ≡ parent b
  slotted_parent = u64_before b.body (be64 n ++ be64 o) (8 + 16 * i) fits 0 (omega arith)

  -- so do the slots before it and behind it
  before : (j : ℕ) → j < i → slot_at (slotted b i n o) j ≡ slot_at b j
  before j h =
      let u = u64_before b.body (be64 n ++ be64 o) (8 + 16 * i) fits in
      ap₂ (λ (x y : ℕ). (x, y)) (u (8 + 16 * j) (omega arith)) (u (16 + 16 * j) (omega arith))

  behind : (j : ℕ) → i < j → slot_at (slotted b i n o) j ≡ slot_at b j
  behind j h =
      let u = u64_behind b.body (be64 n ++ be64 o) (8 + 16 * i) fits in
      ap₂ (λ (x y : ℕ). (x, y)) (u (8 + 16 * j) (omega (arith, slot-length n o))) (u (16 + 16 * j) (omega (arith, slot-length n o)))

  rest : (j k : ℕ) → i < j → slots_from (slotted b i n o) j k ≡ slots_from b j k
  unfolding slots_from
  rest j zero h = refl
  rest j (suc k) h = ap₂ (λ (x : Slot) (l : List Slot). x ∷ l) (behind j h) (rest (j + 1) k (omega arith))

  module _ (p : n < 18446744073709551616) (q : o < 18446744073709551616) where
    -- what stands in it
    inside_is : slot_at (slotted b i n o) i ≡ (n, o)
    inside_is =
        let x : List ℕ = be64 n ++ be64 o in
        let s : (j : ℕ) → j < 16 → get_or (splice b.body (8 + 16 * i) x) (8 + 16 * i + j) 0 ≡ get_or x j 0 =
        λ j h. splice-inside b.body x (8 + 16 * i) j fits (omega (arith, slot-length n o)) in
        let e : u64_at (slotted b i n o).body (8 + 16 * i) ≡ u64_at x 0 =
        u64_agree (slotted b i n o).body x (8 + 16 * i) 0 (λ j h. s j (omega arith) ∙ ap (λ (m : ℕ). get_or x m 0) (sym (zero-add j))) in
        let a : (j : ℕ) → 8 + 16 * i + (8 + j) ≡ 16 + 16 * i + j = λ j. omega arith in
        let f : u64_at (slotted b i n o).body (16 + 16 * i) ≡ u64_at x 8 =
        u64_agree (slotted b i n o).body x (16 + 16 * i) 8
        (λ j h. ap (λ (m : ℕ). get_or (slotted b i n o).body m 0) (sym (a j)) ∙ s (8 + j) (omega arith)) in
        let g : u64_at x 8 ≡ o =
        u64_right (be64 n) (be64 o) 0 8 (omega (arith, length-be64 n)) ∙ ap (λ (y : List ℕ). u64_at y 0) (sym (append-nil (be64 o))) ∙ be64-read o [] q in
        ap₂ (λ (x y : ℕ). (x, y)) (e ∙ be64-read n (be64 o) p) (f ∙ g)

    set_from : (j m k : ℕ) → j + m ≡ i → m < k → slots_from (slotted b i n o) j k ≡ set (slots_from b j k) m (n, o)
    unfolding slots_from
    set_from j m zero e h = absurd (omega arith)
    set_from j zero (suc k) e h =
        let z : j ≡ i = omega arith in
        ap₂ (λ (x : Slot) (l : List Slot). x ∷ l) (ap (slot_at (slotted b i n o)) z ∙ inside_is) (rest (j + 1) k (omega arith))
    set_from j (suc m) (suc k) e h =
        ap₂ (λ (x : Slot) (l : List Slot). x ∷ l) (before j (omega arith)) (set_from (j + 1) m k (omega arith) (omega arith))

    -- the slots are as before, but for this one
    pub slotted_slots : is_dir b ≡ true → slots (slotted b i n o) ≡ set (slots b) i (n, o)
    slotted_slots d =
        let t : total (slotted b i n o) ≡ total b = ap (λ (x : ℕ). (x - 8) / 16) slotted_length in
        slots_dir (slotted b i n o) d
        ∙ ap (slots_from (slotted b i n o) 0) t
        ∙ set_from 0 i (total b) (zero-add i) inside
        ∙ ap (λ (l : List Slot). set l i (n, o)) (sym (slots_dir b d))

-- the directory's block, of a row with the same slot set
pub slotted_node : {d up : ℕ} {b : Block} {c row : Node} (i n o : ℕ) → i < length (slots_of c) → n < 18446744073709551616 → o < 18446744073709551616
    → slots_of row ≡ set (slots_of c) i (n, o) → DirNode d up b c → DirNode d up (slotted b i n o) row
slotted_node {d} {up} {b} {c} i n o l p q e h =
    let t : i < total b = omega (arith, total-row b c h.is_dir h.slots) in
    record {
      some = h.some;
      is_dir = h.is_dir;
      parent = slotted_parent b i n o t ∙ h.parent;
      slots = slotted_slots b i n o t p q h.is_dir ∙ ap (λ (l : List Slot). set l i (n, o)) h.slots ∙ sym e;
    }

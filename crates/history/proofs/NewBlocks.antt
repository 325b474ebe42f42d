-- New blocks: what stands in their data, and that they are sound.
use Prim.Native.Nat.{◌*◌, ◌+◌, ◌<◌, ◌≤◌, suc, zero, ℕ}
use mathlib.Core.Bool.{true}
use mathlib.Core.List.{List, [], ◌++◌, ◌∷◌}
use mathlib.Core.Path.{◌∙◌, ◌≡◌, ap, ap₂, refl, subst, sym}
use native.Mathlib.Nat.{zero-add}
use native.Mathlib.Omega.{arith}
use lib.ListN.{drop, get_or, get_or-replicate, length, length-append, take}
use Rattle.storage.specs.Bytes.{be32, be64, u64_at, zeroed}
use Rattle.storage.proofs.Numbers.{be64-read, length-be64, u64_agree, u64_right}
use Rattle.path.specs.Name.{valid_name}
use Rattle.path.proofs.Paths.{name-length}
use Rattle.alloc.specs.Block.{Block, SFde, SFre}
use Rattle.alloc.specs.Sound.{SoundExtent}
use Rattle.alloc.specs.Tiling.{other_kind}
use Rattle.alloc.specs.Volume.{allocated}
use Rattle.alloc.proofs.Releasing.{length-zeroed}
use Rattle.tree.specs.Fields.{Slot, content, file_size, parent, room, slot_at, slots, slots_from, total}
use Rattle.tree.proofs.Indexed.{slots_dir}
use Rattle.changes.specs.Changing.{New, allowed, directory, new_block, new_directory, new_file, new_name}
use Rattle.changes.proofs.Making.{name-object, new_object}
use Rattle.history.proofs.EmptyRow.{empty_row}
use Rattle.history.proofs.Nodes.{DirNode, FileNode, slots_of}

-- zeros are read as 0
zero_byte : (i : ℕ) → i < 8 → 0 ≡ get_or (be64 0 ++ []) (0 + i) 0
unfolding be64 be32
zero_byte i l = sym (ap (λ (m : ℕ). get_or (zeroed 8) m 0) (zero-add i) ∙ get_or-replicate 8 i 0 0 l)

zero_read : (n p : ℕ) → p + 8 ≤ n → u64_at (zeroed n) p ≡ 0
zero_read n p h =
    u64_agree (zeroed n) (be64 0 ++ []) p 0 (λ i l. get_or-replicate n (p + i) 0 0 (omega arith) ∙ zero_byte i l) ∙ be64-read 0 [] (omega arith)

-- ---- a new directory in the directory d: its parent, and k empty slots

module _ (d k : ℕ) where
  length-directory : length (new_directory d k).body ≡ 8 + 16 * k
  length-directory = omega (arith, length-append (be64 d) (zeroed (16 * k)), length-be64 d, length-zeroed (16 * k))

  pub new_parent : d < 18446744073709551616 → parent (new_directory d k) ≡ d
  new_parent h = be64-read d (zeroed (16 * k)) h

  empty-at : (i : ℕ) → i < k → slot_at (new_directory d k) i ≡ (0, 0)
  empty-at i h =
      let u : (p : ℕ) → p + 8 ≤ 16 * k → u64_at (new_directory d k).body (8 + p) ≡ 0 =
      λ p l. u64_right (be64 d) (zeroed (16 * k)) p (8 + p) (ap (λ (m : ℕ). m + p) (length-be64 d)) ∙ zero_read (16 * k) p l in
      let e : 16 + 16 * i ≡ 8 + (8 + 16 * i) = omega arith in
      ap₂ (λ (x y : ℕ). (x, y)) (u (16 * i) (omega arith)) (ap (u64_at (new_directory d k).body) e ∙ u (8 + 16 * i) (omega arith))

  empty_from : (j m : ℕ) → j + m ≤ k → slots_from (new_directory d k) j m ≡ slots_of (empty_row m)
  unfolding slots_from
  empty_from j zero h = refl
  empty_from j (suc m) h = ap₂ (λ (x : Slot) (l : List Slot). x ∷ l) (empty-at j (omega arith)) (empty_from (j + 1) m (omega arith))

  pub new_slots : slots (new_directory d k) ≡ slots_of (empty_row k)
  new_slots =
      let t : total (new_directory d k) ≡ k = omega (arith, length-directory) in
      slots_dir (new_directory d k) refl ∙ ap (slots_from (new_directory d k) 0) t ∙ empty_from 0 k (omega arith)

-- ---- a new file: it stands, with its room and no bytes

pub new_file_lem : (r m : ℕ) → 0 < r → FileNode r (new_file m) × (room (new_file m) ≡ m) × (content (new_file m) ≡ [])
unfolding content
new_file_lem r m h =
    let l : length (new_file m).body ≡ 16 + m = length-zeroed (16 + m) in
    let z : file_size (new_file m) ≡ 0 = zero_read (16 + m) 0 (omega arith) in (
      record { some = h; is_file = refl; fits = omega arith; reserved = zero_read (16 + m) 8 (omega arith); whole = omega arith },
      omega arith,
      ap (λ (x : ℕ). take x (drop 16 (new_file m).body)) z,
    )

-- ---- a new object

-- what its block says
abbrev pub NewNode : New → ℕ → ℕ → Block → Type 0
NewNode (directory k) up o b = DirNode o up b (empty_row k)
NewNode (New.file m) up o b = FileNode o b × (room b ≡ m) × (content b ≡ [])

pub new_node : (k : New) (d o : ℕ) → d < 18446744073709551616 → 0 < o → NewNode k d o (new_block k d)
new_node (directory k) d o h p = record { some = p; is_dir = refl; parent = new_parent d k h; slots = new_slots d k }
new_node (New.file m) d o h p = new_file_lem o m p

-- ---- they are sound

pub name-sound : (w : List ℕ) → valid_name w ≡ true → SoundExtent (allocated (new_name w))
name-sound w v = let l = name-length w v in ((name-object {w = w} (record { least = l.0; most = l.1 })).kind, refl)

pub block-sound : (k : New) (d : ℕ) → allowed k ≡ true → SoundExtent (allocated (new_block k d))
block-sound (directory k) d a = (subst (λ (m : ℕ). other_kind SFde m ≡ true) (sym (length-directory d k)) (new_object (directory k) a).kind, refl)
block-sound (New.file m) d a = (subst (λ (l : ℕ). other_kind SFre l ≡ true) (sym (length-zeroed (16 + m))) (new_object (New.file m) a).kind, refl)

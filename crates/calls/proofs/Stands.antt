-- An object of a well-formed image stands at its ref, as the layer below reads it.
use Prim.Native.Nat.{◌*◌, ◌+◌, ◌<◌, ◌≤◌, ℕ}
use mathlib.Core.Bool.{Bool, ◌||◌, false, true}
use mathlib.Core.List.{List}
use mathlib.Core.Logic.{◌⊎◌, inl, inr}
use mathlib.Core.Path.{◌∙◌, ◌≡◌, ap, refl, subst, sym}
use native.Mathlib.Omega.{arith}
use lib.Dec.{eqb}
use lib.ListN.{get_or, length}
use mir.Val.{Fits}
use mir.Syntax.{w8}
use borrow.Author.Tests.{eqb-true, ne_eqb}
use Rattle.storage.proofs.Booleans.{or_elim}
use Rattle.storage.proofs.Numbers.{AllBytes}
use Rattle.alloc.specs.Block.{Block, SFde, SFre, block_of, magic_at}
use Rattle.alloc.specs.Volume.{objects, volume_of}
use Rattle.alloc.proofs.Held.{StandsAt, object-stands}
use Rattle.tree.specs.Answers.{DirectoryAt, FileAt}
use Rattle.tree.specs.Fields.{Slot, is_dir, is_file, slot_at, taken, total}
use Rattle.tree.specs.Verdict.{well_formed}
use Rattle.tree.proofs.Formed.{Filled, dir_there, file-there, formed-root, formed-taken, formed-tiled, name-there}
use Rattle.calls.specs.Answers.{DirectoryIn, FileIn, ObjectAt}
use Rattle.calls.specs.Reading.{block_in}

-- the elements of a lent row are bytes
pub bytes_of : (s : List ℕ) → ((i : ℕ) → Fits w8 (get_or s i 0)) → AllBytes s
bytes_of s f i = (f i).fits

-- a file or a directory
either_kind : (b : Block) → (is_file b ≡ true) ⊎ (is_dir b ≡ true) → (is_file b || is_dir b) ≡ true
either_kind b (inl e) = rw e
either_kind b (inr e) = or_second (is_file b) (is_dir b) e
  where
    or_second : (t q : Bool) → q ≡ true → (t || q) ≡ true
    or_second true q e = refl
    or_second false q e = e

module _ {s : List ℕ} (h : AllBytes s) where
  -- any object
  pub formed-stands : (r : ℕ) → well_formed s ≡ true → 0 < (block_in s r).magic → StandsAt s r (block_in s r)
  formed-stands r e p = object-stands (formed-tiled s h e) p

  pub directory-stands : {r : ℕ} → DirectoryIn s r → DirectoryAt s r × (block_of s r ≡ block_in s r)
  unfolding block_of
  directory-stands {r} d =
      let w = formed-stands r d.formed (dir_there (block_in s r) d.kind) in
      (record { standing = w.standing; magic = ap (λ (b : Block). b.magic) w.block ∙ eqb-true (block_in s r).magic SFde d.kind }, w.block)

  pub file-stands : {r : ℕ} → FileIn s r → FileAt s r × (block_of s r ≡ block_in s r)
  unfolding block_of
  file-stands {r} f =
      let w = formed-stands r f.formed (file-there (block_in s r) f.kind) in
      (record { standing = w.standing; magic = ap (λ (b : Block). b.magic) w.block ∙ eqb-true (block_in s r).magic SFre f.kind }, w.block)

  pub object-at : {r : ℕ} → ObjectAt s r → StandsAt s r (block_in s r)
  object-at {r} o = formed-stands r o.formed (or_elim (is_file (block_in s r)) (is_dir (block_in s r)) o.kind (file-there (block_in s r)) (dir_there (block_in s r)))

  pub header-inside : {r : ℕ} → ObjectAt s r → 16 * r + 16 ≤ length s
  header-inside o = omega (arith, (object-at o).standing.fits)

  -- by what code asks of the magic
  pub magic-told : {r : ℕ} → ObjectAt s r → {t : Bool} (k : ℕ) → t ≡ eqb (magic_at s r) k → eqb (block_in s r).magic k ≡ t
  unfolding block_of
  magic-told o k q = ap (λ (b : Block). eqb b.magic k) (sym (object-at o).block) ∙ sym q

  -- what is no directory is a file
  pub other-file : {r : ℕ} (o : ObjectAt s r) {m : ℕ} → m ≡ magic_at s r → (m ≡ SFde → ⊥) → FileIn s r
  other-file {r} o {m} q n =
      let d : is_dir (block_in s r) ≡ false = magic-told o SFde (sym (ne_eqb (magic_at s r) SFde (λ e. n (q ∙ e)))) in
      record { formed = o.formed; kind = only (is_file (block_in s r)) (is_dir (block_in s r)) o.kind d }
    where
      only : (t u : Bool) → (t || u) ≡ true → u ≡ false → t ≡ true
      only true u e f = refl
      only false u e f = let y : ◌≡◌ {A = ℕ} 0 1 = cc in absurd (omega arith)

  -- the root
  pub root-object : well_formed s ≡ true → ObjectAt s (volume_of s).root
  root-object e = record { formed = e; kind = either_kind (block_in s (volume_of s).root) (inr (formed-root s h e)) }

  -- the slots of a directory, as they are read
  module _ {r : ℕ} (d : DirectoryIn s r) (i : ℕ) where
    pub slot_read : {x : Slot} → x ≡ slot_at (block_of s r) i → x ≡ slot_at (block_in s r) i
    slot_read e = e ∙ ap (λ (b : Block). slot_at b i) (directory-stands d).1

    -- it lies in the directory that stands there
    pub slot_here : i < total (block_in s r) → DirectoryAt s r × (i < total (block_of s r))
    slot_here l = ((directory-stands d).0, subst (λ (b : Block). i < total b) (sym (directory-stands d).1) l)

  -- a taken slot: its name block stands, and its object is one
  module _ {r : ℕ} (d : DirectoryIn s r) (i : ℕ) (l : i < total (block_in s r)) (t : taken (slot_at (block_in s r) i) ≡ true) where
    filled : Filled (objects (volume_of s)) (slot_at (block_in s r) i)
    filled = formed-taken s h d.formed r d.kind i l t

    pub slot-name-stands : StandsAt s (slot_at (block_in s r) i).0 (block_in s (slot_at (block_in s r) i).0)
    slot-name-stands =
        formed-stands (slot_at (block_in s r) i).0 d.formed (name-there (block_in s (slot_at (block_in s r) i).0) filled.is_name)

    pub slot-object : ObjectAt s (slot_at (block_in s r) i).1
    slot-object = record { formed = d.formed; kind = either_kind (block_in s (slot_at (block_in s r) i).1) filled.kind }

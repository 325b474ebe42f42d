-- Making: new blocks, and a slot filled.
use Prim.Native.Nat.{◌*◌, ◌+◌, ◌-◌, ◌<◌, ◌≤◌, suc, zero, ℕ}
use mathlib.Core.Bool.{Bool, false, true}
use mathlib.Core.List.{List, [], ◌++◌, append-nil}
use mathlib.Core.Option.{Option, none, some}
use mathlib.Core.Path.{◌∙◌, ◌≡◌, ap, refl, subst, sym}
use Rattle.std.specs.Prelude as std
use Rattle.std.specs.Prelude.{None, Some, is_some}
use native.Mathlib.Nat.{add-zero, zero-add}
use native.Mathlib.Omega.{arith}
use lib.Dec.{leb}
use lib.ListN.{drop, length, length-append}
use borrow.Author.Tests.{le-leb, leb-true}
use Rattle.storage.specs.Bytes.{be64, splice, zeroed}
use Rattle.storage.proofs.Booleans.{and_true}
use Rattle.storage.proofs.Numbers.{AllBytes, length-be64}
use Rattle.storage.proofs.Splice.{splice_none}
use Rattle.path.specs.Path.{components, valid_path}
use Rattle.path.proofs.ValidNames.{valid-path}
use Rattle.alloc.specs.Answers.{PlacesPair}
use Rattle.alloc.specs.Block.{Block, SFde, SFna, SFre, size_at}
use Rattle.alloc.specs.Gaps.{tightest}
use Rattle.alloc.specs.Room.{PlacedPair, after_update, blank, place_pair, updated}
use Rattle.alloc.specs.Sound.{Holds, Object, Sound}
use Rattle.alloc.specs.Tiling.{other_kind}
use Rattle.alloc.specs.Volume.{Extent, block_at, image, objects, objects_from, volume_of}
use Rattle.alloc.proofs.Creating.{drop-zeroed}
use Rattle.alloc.proofs.Data.{spliced}
use Rattle.alloc.proofs.Choosing.{chooses_tightest}
use Rattle.alloc.proofs.Filling.{pair_filled, pair_other, pair_there, pair_unfilled}
use Rattle.alloc.proofs.Releasing.{length-zeroed}
use Rattle.alloc.proofs.Stages.{PairIn, stage_pair, stage_start, stage_unpaired}
use Rattle.tree.specs.Fields.{total}
use Rattle.tree.proofs.Formed.{dir_there, formed_dir, formed-sound}
use Rattle.calls.specs.declared.refusal.Reason.TheVariants.{Exists, NoRoom, NoSlot}
use Rattle.calls.specs.Refusal.{Accepted, For, Refusal}
use Rattle.calls.specs.Answers.{index_of}
use Rattle.calls.specs.Reading.{block_in}
use Rattle.calls.specs.Walk.{Start, empty_slot, last_name, reached, refused, slot_named, start_above}
use Rattle.changes.specs.Answers.{Makes, Named, Vacant, magic_for, parent_field, size_for}
use Rattle.changes.specs.Changing.{Made, New, allowed, directory, file, fill_slot, make, make_at, make_in, new_block, new_name, set_slot, unmade, with_root}
use Rattle.changes.proofs.Formatting.{directory-object}
use Rattle.changes.proofs.Storing.{Open, open_image, store, store_at, store_other}

-- ---- blank blocks, filled

over_zeros : (n m : ℕ) (x : List ℕ) → length x + m ≡ n → splice (zeroed n) 0 x ≡ x ++ zeroed m
unfolding splice
over_zeros n m x e = ap (λ (l : List ℕ). x ++ l) (ap (λ (k : ℕ). drop k (zeroed n)) (zero-add (length x)) ∙ drop-zeroed (length x) m n e)

pub filled-name : (w : List ℕ) → spliced (blank SFna (length w)) 0 w ≡ new_name w
filled-name w = ap new_name (over_zeros (length w) 0 w (add-zero (length w)) ∙ append-nil w)

pub filled-object : (new : New) (d : ℕ) → spliced (blank (magic_for new) (size_for new)) 0 (parent_field new d) ≡ new_block new d
filled-object (directory k) d =
    ap (λ (l : List ℕ). record { magic = SFde; body = l }) (over_zeros (8 + 16 * k) (16 * k) (be64 d) (ap (λ (n : ℕ). n + 16 * k) (length-be64 d)))
filled-object (file n) d = ap (λ (l : List ℕ). record { magic = SFre; body = l }) (splice_none (zeroed (16 + n)) 0)

-- ---- their kinds

pub name-object : {w : List ℕ} → Named w → Object SFna (length w)
unfolding other_kind
name-object {w} n = record {
  kind = rw (le-leb 1 (length w) n.least, le-leb (length w) 64 n.most);
  used = λ e. omega arith;
}

-- the numbers that are allowed
pub directory-bounds : (k : ℕ) → allowed (directory k) ≡ true → (1 ≤ k) × (k ≤ 1024)
directory-bounds k e = let f = and_true (leb 1 k) (leb k 1024) e in (leb-true 1 k f.0, leb-true k 1024 f.1)

pub file-bounds : (n : ℕ) → allowed (file n) ≡ true → n ≤ 65536
file-bounds n e = leb-true n 65536 (and_true (leb 0 n) (leb n 65536) e).1

pub new_object : (new : New) → allowed new ≡ true → Object (magic_for new) (size_for new)
unfolding other_kind
new_object (directory k) e = let b = directory-bounds k e in directory-object k b.0 b.1
new_object (file n) e =
    let b = file-bounds n e in
    record { kind = rw (le-leb 16 (16 + n) (omega arith), le-leb (16 + n) 65552 (omega arith)); used = λ e. omega arith }

parent-fits : (new : New) (d : ℕ) → 0 + length (parent_field new d) ≤ size_for new
parent-fits (directory k) d = omega (arith, length-be64 d)
parent-fits (file n) d = omega arith

magic-there : (new : New) → 0 < magic_for new
magic-there (directory k) = omega arith
magic-there (file n) = omega arith

-- ---- a slot filled

pub slot-length : (n o : ℕ) → length (be64 n ++ be64 o) ≡ 16
slot-length n o = omega (arith, length-append (be64 n) (be64 o), length-be64 n, length-be64 o)

pub vacant-sound : {s : List ℕ} → AllBytes s → {d i : ℕ} {w : List ℕ} → Vacant s d i w → Sound s
vacant-sound {s} h v = formed-sound s h v.directory.formed

-- a pair placed, by what is read of it
pair_told : {s t : List ℕ} {k m n m' n' : ℕ} {o o' : Option (ℕ × ℕ)} → m ≡ m' → n ≡ n' → o ≡ o' → PlacesPair tightest s k m n o t
    → PlacesPair tightest s k m' n' o' t
pair_told {s} {t} {k} {m} {n} {m'} {n'} {o} {o'} e f g p =
    subst (λ (x : ℕ). PlacesPair tightest s k x n' o' t) e (subst (λ (x : ℕ). PlacesPair tightest s k m x o' t) f (subst (λ (x : Option (ℕ × ℕ)). PlacesPair tightest s k m n x t) g p))

module _ {s : List ℕ} (h : AllBytes s) {d i : ℕ} {w : List ℕ} (v : Vacant s d i w) (new : New) where
  abbrev es : List Extent
  es = (volume_of s).extents

  abbrev name : Block
  name = blank SFna (length w)

  abbrev object : Block
  object = blank (magic_for new) (size_for new)

  name-fits : 0 + length w ≤ length name.body
  name-fits = omega (arith, length-zeroed (length w))

  object-fits : 0 + length (parent_field new d) ≤ length object.body
  object-fits = omega (arith, parent-fits new d, length-zeroed (size_for new))

  fill_so : (o : Option PlacedPair) → place_pair tightest (new_name w) (new_block new d) es ≡ o
      → fill_slot s new w d i ≡ elim o [
        | none ↦ unmade (For NoRoom) s
        | some x ↦ record { refusal = Accepted; at = x.object; image = image (with_root s (set_slot d i x.name x.object x.extents)) }
      ]
  unfolding fill_slot
  fill_so o e = rw (e, fill_slot)

  -- no room
  pub fill_none : {m z : ℕ} → m ≡ magic_for new → z ≡ size_for new → {q : Option (ℕ × ℕ)} → q ≡ none → {t : List ℕ}
      → PlacesPair tightest s (length w) m z q t → Makes (fill_slot s new w d i) (For NoRoom) 0 t
  fill_none em ez eq {t} p =
      let q = stage_unpaired (stage_start (vacant-sound h v)) (pair_told em ez eq p) in
      let e : place_pair tightest (new_name w) (new_block new d) es ≡ none =
      ap (λ (b : Block). place_pair tightest b (new_block new d) es) (sym (filled-name w))
      ∙ ap (λ (b : Block). place_pair tightest (spliced name 0 w) b es) (sym (filled-object new d))
      ∙ pair_unfilled chooses_tightest name object es 0 w 0 (parent_field new d) name-fits object-fits (omega arith) (magic-there new) q.0 in
      subst (λ (m : Made). Makes m (For NoRoom) 0 t) (sym (fill_so none e)) (record { refusal_is = refl; at-is = refl; image-is = q.1 })

  module _ (a : allowed new ≡ true) {m z : ℕ} (em : m ≡ magic_for new) (ez : z ≡ size_for new) {n o : ℕ} {q : Option (ℕ × ℕ)} (eq : q ≡ some (n, o)) {t : List ℕ}
      (p : PlacesPair tightest s (length w) m z q t) where
    pair : PairIn tightest s es name object n o t
    pair = stage_pair (stage_start (vacant-sound h v)) chooses_tightest (name-object v.name) (new_object new a) (pair_told em ez eq p)

    abbrev x : PlacedPair
    x = pair.placed

    there : (block_at (objects_from 2 x.extents) x.name ≡ name) × (block_at (objects_from 2 x.extents) x.object ≡ object)
    there = pair_there pair.fits (omega arith) (magic-there new)

    -- the three objects that are written to
    open_at : (r : ℕ) {b : Block} → block_at (objects_from 2 x.extents) r ≡ b → 0 < b.magic → {m : ℕ} → length b.body ≡ m → Open s r m x.extents t
    open_at r e q l = record { renewed = pair.renewed; there = subst (λ (c : Block). 0 < c.magic) (sym e) q; size = ap (λ (c : Block). length c.body) e ∙ l }

    name_open : Open s n (length w) x.extents t
    name_open = open_at n (ap (block_at (objects_from 2 x.extents)) (sym pair.name-ref) ∙ there.0) (omega arith) (length-zeroed (length w))

    object_open : Open s o (size_for new) x.extents t
    object_open =
        open_at o (ap (block_at (objects_from 2 x.extents)) (sym pair.object-ref) ∙ there.1) (magic-there new) (length-zeroed (size_for new))

    directory_open : Open s d (8 + 16 * total (block_in s d)) x.extents t
    unfolding objects
    directory_open =
        let q = dir_there (block_in s d) v.directory.kind in
        open_at d (pair_other pair.fits (omega arith) (magic-there new) d q) q (formed_dir s h v.directory.formed d v.directory.kind).0

    -- the name's bytes
    pub fill_name : Holds t n × (0 + length w ≤ size_at t n)
    fill_name = store_at name_open 0 (length w) (omega arith)

    module _ {t1 : List ℕ} (e1 : t1 ≡ after_update n 0 w t) where
      -- one object, after them
      after-name : {r m : ℕ} → Open s r m x.extents t → Open s r m (updated n 0 w 2 x.extents) t1
      after-name = store_other name_open 0 w (omega arith) e1

      -- the object's
      pub fill_object : Holds t1 o × (length (parent_field new d) ≤ size_at t1 o)
      fill_object = let k = store_at (after-name object_open) 0 (length (parent_field new d)) (parent-fits new d) in (k.0, omega (arith, k.1))

      module _ {t2 : List ℕ} (e2 : t2 ≡ after_update o 0 (parent_field new d) t1) where
        filled_open : Open s d (8 + 16 * total (block_in s d)) (updated o 0 (parent_field new d) 2 (updated n 0 w 2 x.extents)) t2
        filled_open = store_other (after-name object_open) 0 (parent_field new d) (parent-fits new d) e2 (after-name directory_open)

        -- the slot's
        pub fill_slot_lem : Holds t2 d × (24 + 16 * i ≤ size_at t2 d)
        fill_slot_lem = let k = store_at filled_open (8 + 16 * i) 16 (omega (arith, v.slot)) in (k.0, omega (arith, k.1))

        pub fill_done : {t3 : List ℕ} → t3 ≡ after_update d (8 + 16 * i) (be64 n ++ be64 o) t2 → Makes (fill_slot s new w d i) Accepted o t3
        fill_done {t3} e3 =
            let f : ℕ → ℕ → List ℕ = λ a b. image (with_root s (set_slot d i a b (updated b 0 (parent_field new d) 2 (updated a 0 w 2 x.extents)))) in
            let g : t3 ≡ f n o = open_image (store filled_open (8 + 16 * i) (be64 n ++ be64 o) (omega (arith, slot-length n o, v.slot)) e3) in
            let e : place_pair tightest (new_name w) (new_block new d) es
            ≡ some (record { name = x.name; object = x.object; extents = updated x.object 0 (parent_field new d) 2 (updated x.name 0 w 2 x.extents) }) =
            ap (λ (b : Block). place_pair tightest b (new_block new d) es) (sym (filled-name w))
            ∙ ap (λ (b : Block). place_pair tightest (spliced name 0 w) b es) (sym (filled-object new d))
            ∙ pair_filled chooses_tightest name object es 0 w 0 (parent_field new d) name-fits object-fits (omega arith) (magic-there new) x pair.places in
            subst (λ (m : Made). Makes m Accepted o t3) (sym (fill_so _ e)) (record {
              refusal_is = refl;
              at-is = sym pair.object-ref;
              image-is = g ∙ ap (λ (a : ℕ). f a o) (sym pair.name-ref) ∙ ap (f x.name) (sym pair.object-ref);
            })

-- ---- in a directory

-- whether there is a slot, as the code asks it
pub some_there : (o : std.Option ℕ) → is_some o ≡ true → {y : Option ℕ} → index_of o ≡ y → (j : ℕ) × (some j ≡ y)
some_there (Some j) q e = (j, e)
some_there None q e = cc

pub none_there : (o : std.Option ℕ) → is_some o ≡ false → {y : Option ℕ} → index_of o ≡ y → none ≡ y
none_there (Some j) q e = cc
none_there None q e = e

module _ (s : List ℕ) (new : New) (w : List ℕ) (d : ℕ) where
  -- the name is there
  pub make-there : {j : ℕ} → some j ≡ slot_named (objects (volume_of s)) (block_in s d) w → Makes (make_in s new w d) (For Exists) 0 s
  unfolding make_in
  make-there e = rw (sym e, make_in) (record { refusal_is = refl; at-is = refl; image-is = refl })

  module _ (e : none ≡ slot_named (objects (volume_of s)) (block_in s d) w) where
    -- no slot is empty
    pub make_full : none ≡ empty_slot (block_in s d) → Makes (make_in s new w d) (For NoSlot) 0 s
    unfolding make_in
    make_full f = rw (sym e, make_in) (rw (sym f) (record { refusal_is = refl; at-is = refl; image-is = refl }))

    pub make-filled : {i : ℕ} → some i ≡ empty_slot (block_in s d) → (n : Refusal) (o : ℕ) (t : List ℕ) → Makes (fill_slot s new w d i) n o t → Makes (make_in s new w d) n o t
    unfolding make_in
    make-filled f n o t m = rw (sym e, make_in) (rw (sym f) m)

-- ---- on a path

module _ (s path : List ℕ) (new : New) where
  made : (x : Start) → x ≡ start_above s path (allowed new) Exists → (n : Refusal) (o : ℕ) (t : List ℕ) → Makes (make_at s new (last_name path) x) n o t → Makes (make s path new) n o t
  unfolding make
  made x e n o t m = subst (λ (y : Start). Makes (make_at s new (last_name path) y) n o t) e m

  module _ {a : Bool} (b : a ≡ allowed new) where
    pub make-refused : (n : Refusal) → refused n ≡ start_above s path a Exists → Makes (make s path new) n 0 s
    make-refused n e = made (refused n) (e ∙ ap (λ (t : Bool). start_above s path t Exists) b) n 0 s (record { refusal_is = refl; at-is = refl; image-is = refl })

    pub make-reached : (d : ℕ) → reached d ≡ start_above s path a Exists → (w : List ℕ) → w ≡ last_name path → (n : Refusal) (o : ℕ) (t : List ℕ)
        → Makes (make_in s new w d) n o t → Makes (make s path new) n o t
    make-reached d e w f n o t m = made (reached d) (e ∙ ap (λ (t : Bool). start_above s path t Exists) b) n o t (subst (λ (v : List ℕ). Makes (make_in s new v d) n o t) f m)

-- the last component is as long as a name
pub last_named : (path w : List ℕ) → valid_path path ≡ true → (length (components path) ≡ 0 → ⊥) → w ≡ last_name path → Named w
unfolding last_name
last_named path w v n e =
    let l = (((valid-path path).0 v).names (length (components path) - 1) (omega (arith, positive (length (components path)) n))).size in
    subst Named (sym e) (record { least = l.0; most = l.1 })
  where
    positive : (m : ℕ) → (m ≡ 0 → ⊥) → 0 < m
    positive zero h = absurd (h refl)
    positive (suc m) h = omega arith

-- ---- as the code tells it

-- what a new object's block is given
pub parent-directory : (new : New) (k d : ℕ) → new ≡ directory k → be64 d ≡ parent_field new d
parent-directory new k d e = sym (ap (λ (n : New). parent_field n d) e)

pub parent-file : (new : New) (n d : ℕ) → new ≡ file n → [] ≡ parent_field new d
parent-file new n d e = sym (ap (λ (n : New). parent_field n d) e)

pub object-told : {m n m' n' : ℕ} → m ≡ m' → n ≡ n' → Object m' n' → Object m n
object-told {m} {n} {m'} {n'} e f o = subst (λ (x : ℕ). Object x n) (sym e) (subst (λ (x : ℕ). Object m' x) (sym f) o)

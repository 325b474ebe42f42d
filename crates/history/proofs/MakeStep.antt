-- Make keeps an image good, and the book tells of the new object.
use Prim.Native.Nat.{◌*◌, ◌+◌, ◌<◌, ◌≤◌, ℕ}
use mathlib.Core.Bool.{false, true}
use mathlib.Core.List.{List, ◌++◌, ◌∷◌}
use mathlib.Core.Option.{Option, none, some}
use mathlib.Core.Path.{◌∙◌, ◌≡◌, refl, subst, sym}
use native.Mathlib.Omega.{arith}
use lib.ListN.{length, length-append}
use Rattle.history.proofs.Tested.{here_self}
use Rattle.storage.specs.Bytes.{be64}
use Rattle.storage.proofs.Numbers.{length-be64}
use Rattle.path.specs.Name.{valid_name}
use Rattle.path.specs.Path.{all_but_last}
use Rattle.alloc.specs.Block.{Block}
use Rattle.alloc.specs.Gaps.{tightest}
use Rattle.alloc.specs.Room.{PlacedPair, place_pair}
use Rattle.alloc.proofs.Choosing.{chooses_tightest}
use Rattle.alloc.proofs.Both.{Paired, paired}
use Rattle.alloc.specs.Sound.{SoundExtent, SoundVolume}
use Rattle.alloc.specs.Volume.{Volume, allocated, image, objects, volume_of}
use Rattle.alloc.proofs.Heads.{volume}
use Rattle.tree.proofs.Formed.{dir_there}
use Rattle.calls.specs.declared.refusal.Reason.TheVariants.{Exists, NoRoom, NoSlot}
use Rattle.calls.specs.Refusal.{Accepted, For}
use Rattle.calls.specs.Reading.{block_in}
use Rattle.calls.specs.Walk.{empty_slot, last_name, slot_named}
use Rattle.changes.specs.Changing.{Made, New, allowed, fill_slot, make, make_at, make_in, new_block, new_name, set_slot, unmade, with_root}
use Rattle.history.specs.Book.{Tree, added, in_directory}
use Rattle.history.specs.History.{at_last}
use Rattle.history.proofs.Beginning.{above_cases}
use Rattle.history.proofs.Cells.{slotted, slotted_node}
use Rattle.history.proofs.Edits.{Exchange, edited}
use Rattle.history.proofs.Good.{Good}
use Rattle.history.proofs.LastName.{at_last_lem, before-few, last_name_lem}
use Rattle.history.proofs.MakeEdit.{not_named, put}
use Rattle.history.proofs.Moves.{Has, Move, pair_move, ref-within, updated_move}
use Rattle.history.proofs.NewBlocks.{block-sound, name-sound, new_node}
use Rattle.history.proofs.Nodes.{Among, NameNode, Node, a_dir, height, named, seek}
use Rattle.history.proofs.Refs.{refs_once}
use Rattle.history.proofs.Sighted.{Answered, counted_has, good_volume, kept_edited, kept_reason, kept-refused, reached-directory, sought_seen, sought_weight}
use Rattle.history.proofs.Sights.{Seen}
use Rattle.history.proofs.Sums.{here, sum_this_le, this}
use Rattle.history.proofs.Walks.{empty-row, index_empty, named-row, total-row}

-- ---- both blocks placed, and the slot set

module _ {n : ℕ} {v : Volume} (k : SoundVolume n v) {d : ℕ} {bd : Block} (h : Has v d bd) (a b : Block) (x : PlacedPair)
    (sa : SoundExtent (allocated a)) (sb : SoundExtent (allocated b)) (e : Paired a b v.extents x) where
  -- both blocks
  placed : Move n v (volume v.root x.extents) (λ f. 0) (λ f. f (x.name, a) + f (x.object, b))
  placed = pair_move k sa sb e

  -- their refs fit a slot
  name-ref : (0 < x.name) × (x.name < 18446744073709551616)
  name-ref = ref-within placed.sound x.name (omega (arith, placed.sums (here x.name), here_self x.name a))

  object-ref : (0 < x.object) × (x.object < 18446744073709551616)
  object-ref = ref-within placed.sound x.object (omega (arith, placed.sums (here x.object), here_self x.object b))

  -- and the slot
  made_move : (i : ℕ) → 24 + 16 * i ≤ length bd.body
      → Move n v (volume v.root (set_slot d i x.name x.object x.extents)) (λ f. f (d, bd))
      (λ f. f (x.name, a) + f (x.object, b) + f (d, slotted bd i x.name x.object))
  made_move i l =
      let there : Has (volume v.root x.extents) d bd = record { counted = omega (arith, placed.sums (this d bd), h.counted); real = h.real } in
      let u = updated_move placed.sound there (8 + 16 * i) (be64 x.name ++ be64 x.object)
      (omega (arith, length-append (be64 x.name) (be64 x.object), length-be64 x.name, length-be64 x.object)) in
      record { sound = u.sound; sums = λ f. omega (arith, u.sums f, placed.sums f) }

-- ---- in the directory that is reached

abbrev AnsweredMade : ℕ → Tree → Option Tree → Made → Type 0
AnsweredMade n t t' m = Answered n t t' m.refusal m.image

module _ {n : ℕ} {s : List ℕ} {t : Tree} (g : Good n s t) (new : New) (bounds : allowed new ≡ true) (w : List ℕ) (valid : valid_name w ≡ true)
    (ws : List (List ℕ)) (few : length ws < 16) (d : ℕ) (c : Node) (e : seek ws (volume_of s).root g.block g.node ≡ a_dir d (block_in s d) c) where
  abbrev after : Option Tree
  after = in_directory ws (added w new) t

  seen : Seen (length ws) (height g.node) (a_dir d (block_in s d) c)
  seen = sought_seen g ws (a_dir d (block_in s d) c) e

  has : Has (volume_of s) d (block_in s d)
  has = counted_has g d (block_in s d) (dir_there (block_in s d) seen.0.1.is_dir) (λ f. omega (arith, sought_weight g ws (a_dir d (block_in s d) c) e f))

  -- room was found
  filled : (i : ℕ) → index_empty c ≡ some i → named w c ≡ false → (x : PlacedPair) → Paired (new_name w) (new_block new d) (volume_of s).extents x
      → Answered n t after Accepted (image (with_root s (set_slot d i x.name x.object x.extents)))
  filled i ie nw x q =
      let k = good_volume g in
      let sa = name-sound w valid in
      let sb = block-sound new d bounds in
      let rn = name-ref k has (new_name w) (new_block new d) x sa sb q in
      let ro = object-ref k has (new_name w) (new_block new d) x sa sb q in
      let rd = ref-within k d (omega (arith, has.counted, sum_this_le d (block_in s d) (objects (volume_of s)))) in
      let name : NameNode x.name (new_name w) = record { some = rn.0; is_name = refl; valid = valid } in
      let p = put new d x.name x.object (new_name w) (new_block new d) name (new_node new d x.object rd.1 ro.0) c i ie nw seen.1 in
      let l = total-row (block_in s d) c seen.0.1.is_dir seen.0.1.slots in
      let m = made_move k has (new_name w) (new_block new d) x sa sb q i (omega (arith, p.inside)) in
      let y : Exchange d (block_in s d) c (added w new) = record {
        block = slotted (block_in s d) i x.name x.object;
        row = p.row;
        stands = λ up h. slotted_node i x.name x.object p.inside rn.1 ro.1 p.slots h;
        row-stands = p.stands;
        book = p.book;
      } in
      kept_edited g m.sound refl (in_directory ws (added w new))
      (edited y g.rep ws e (λ f. omega (arith, m.sums f, p.sums f)) (refs_once _) (omega (arith, p.low, seen.2, g.rep.low)))

  -- or not
  fill_kept : (i : ℕ) → index_empty c ≡ some i → named w c ≡ false → AnsweredMade n t after (fill_slot s new w d i)
  unfolding fill_slot
  fill_kept i ie nw = go (place_pair tightest (new_name w) (new_block new d) (volume_of s).extents) refl
    where
      go : (o : Option PlacedPair) → place_pair tightest (new_name w) (new_block new d) (volume_of s).extents ≡ o
          → AnsweredMade n t after (elim o [
            | none ↦ unmade (For NoRoom) s
            | some x ↦ record { refusal = Accepted; at = x.object; image = image (with_root s (set_slot d i x.name x.object x.extents)) }
          ])
      go none q = kept_reason g after NoRoom
      go (some x) q = filled i ie nw x (paired chooses_tightest (new_name w) (new_block new d) (volume_of s).extents x q)

  -- refused, or the lowest empty slot
  make_in_lem : AnsweredMade n t after (make_in s new w d)
  unfolding make_in
  make_in_lem = by_name (slot_named (objects (volume_of s)) (block_in s d) w) refl
    where
      among : Among (objects (volume_of s)) c
      among f = omega (arith, sought_weight g ws (a_dir d (block_in s d) c) e f)

      by_slot : named w c ≡ false → (o : Option ℕ) → empty_slot (block_in s d) ≡ o → AnsweredMade n t after (elim o [ none ↦ unmade (For NoSlot) s | some i ↦ fill_slot s new w d i ])
      by_slot nw none q = kept_reason g after NoSlot
      by_slot nw (some i) q = fill_kept i (sym (empty-row d seen.0.0 (block_in s d) c seen.0.1 seen.1) ∙ q) nw

      by_name : (o : Option ℕ) → slot_named (objects (volume_of s)) (block_in s d) w ≡ o
          → AnsweredMade n t after (elim o [ some i ↦ unmade (For Exists) s | none ↦ elim (empty_slot (block_in s d)) [ none ↦ unmade (For NoSlot) s | some i ↦ fill_slot s new w d i ] ])
      by_name (some i) q = kept_reason g after Exists
      by_name none q =
          let r = named-row (objects (volume_of s)) g.rep.once w d seen.0.0 (block_in s d) c seen.0.1 seen.1 among in
          by_slot (not_named w c (sym r ∙ q)) (empty_slot (block_in s d)) refl

-- ---- on a path

pub make-kept : {n : ℕ} {s : List ℕ} {t : Tree} → Good n s t → (path : List ℕ) (new : New)
    → AnsweredMade n t (at_last (λ w. added w new) path t) (make s path new)
unfolding make
make-kept {n} {s} {t} g path new =
    above_cases (λ x. AnsweredMade n t (at_last (λ w. added w new) path t) (make_at s new (last_name path) x)) s path (allowed new)
    (kept-refused g (at_last (λ w. added w new) path t)) Exists
    (λ d h v a w ws c e k.
    let y = reached-directory g (all_but_last (w ∷ ws)) d e k in
    subst (λ (t' : Option Tree). AnsweredMade n t t' (make_in s new (last_name path) d)) (sym (at_last_lem path w ws c (λ w. added w new) t))
    (make_in_lem g new a (last_name path) (last_name_lem path w ws c v) (all_but_last (w ∷ ws)) (before-few path w ws c v) d y.0 y.1))

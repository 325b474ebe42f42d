-- Remove keeps an image good, and the book loses the object.
use Prim.Native.Nat.{◌*◌, ◌+◌, ◌<◌, ◌≤◌, ℕ}
use mathlib.Core.Bool.{Bool, false, true}
use mathlib.Core.List.{List, ◌++◌, ◌∷◌}
use mathlib.Core.Option.{Option, none, some}
use mathlib.Core.Path.{◌∙◌, ◌≡◌, ap, refl, subst, sym}
use native.Mathlib.Omega.{arith}
use lib.Dec.{eqb}
use lib.ListN.{length, length-append}
use borrow.Author.Tests.{eqb-true}
use Rattle.storage.specs.Bytes.{be64}
use Rattle.storage.proofs.Numbers.{length-be64}
use Rattle.path.specs.Path.{all_but_last}
use Rattle.alloc.specs.Block.{Block}
use Rattle.alloc.specs.Room.{released}
use Rattle.alloc.specs.Sound.{SoundVolume}
use Rattle.alloc.specs.Volume.{Volume, image, objects, volume_of}
use Rattle.alloc.proofs.Heads.{volume}
use Rattle.tree.specs.Fields.{Slot, slot_at, slots, taken_count, total}
use Rattle.tree.proofs.Formed.{dir_there, name-there}
use Rattle.calls.specs.declared.refusal.Reason.TheVariants.{IsRoot, NotEmpty, NotFound}
use Rattle.calls.specs.Refusal.{Accepted, For}
use Rattle.calls.specs.Reading.{block_in}
use Rattle.calls.specs.Walk.{last_name, slot_named}
use Rattle.changes.specs.Changing.{done, remove, remove_at, remove_in, removed, set_slot, unchanged, with_root}
use Rattle.history.specs.Book.{Tree, emptied, in_directory}
use Rattle.history.specs.History.{at_last}
use Rattle.history.proofs.Beginning.{above_cases}
use Rattle.history.proofs.Cells.{slotted, slotted_node}
use Rattle.history.proofs.Edits.{Exchange, edited}
use Rattle.history.proofs.Good.{Good}
use Rattle.history.proofs.LastName.{at_last_lem}
use Rattle.history.proofs.Moves.{Has, Move, has_block, released_move, updated_move}
use Rattle.history.proofs.Nodes.{Node, a_dir, height, seek, sum_of}
use Rattle.history.proofs.Refs.{refs_once}
use Rattle.history.proofs.RemoveEdit.{Held, Out, take_out, untaken_sum}
use Rattle.history.proofs.Sighted.{Answered, AnsweredBy, counted_has, good_volume, kept_edited, kept_reason, kept-refused, reached-directory, sought_seen, sought_weight}
use Rattle.history.proofs.Sights.{Seen}
use Rattle.history.proofs.Sums.{Item, sum, this, this_self}
use Rattle.history.proofs.Walks.{named-row, slot_row, total-row}

-- ---- the slot emptied, both blocks released

module _ {n : ℕ} {v : Volume} (k : SoundVolume n v) {d : ℕ} {bd : Block} (h : Has v d bd) (a b : Block) (la : 0 < a.magic) (lb : 0 < b.magic)
    (p q i : ℕ) (l : 24 + 16 * i ≤ length bd.body) (all : (f : Item → ℕ) → f (d, bd) + (f (p, a) + f (q, b)) ≤ sum f (objects v)) where
  -- the slot, the name, the object
  cleared : Move n v (volume v.root (set_slot d i 0 0 v.extents)) (λ f. f (d, bd)) (λ f. f (d, slotted bd i 0 0))
  cleared = updated_move k h (8 + 16 * i) (be64 0 ++ be64 0) (omega (arith, length-append (be64 0) (be64 0), length-be64 0))

  unnamed : Move n (volume v.root (set_slot d i 0 0 v.extents)) (volume v.root (released p (set_slot d i 0 0 v.extents))) (λ f. f (p, a)) (λ f. 0)
  unnamed = released_move cleared.sound (record { counted = omega (arith, cleared.sums (this p a), all (this p a), this_self p a); real = la })

  freed : Move n (volume v.root (released p (set_slot d i 0 0 v.extents))) (volume v.root (released q (released p (set_slot d i 0 0 v.extents)))) (λ f. f (q, b)) (λ f. 0)
  freed = released_move unnamed.sound (record { counted = omega (arith, unnamed.sums (this q b), cleared.sums (this q b), all (this q b), this_self q b); real = lb })

  removed_move : Move n v (volume v.root (released q (released p (set_slot d i 0 0 v.extents)))) (λ f. f (d, bd) + (f (p, a) + f (q, b))) (λ f. f (d, slotted bd i 0 0))
  removed_move = record { sound = freed.sound; sums = λ f. omega (arith, freed.sums f, unnamed.sums f, cleared.sums f) }

-- ---- from the directory that is reached

module _ {n : ℕ} {s : List ℕ} {t : Tree} (g : Good n s t) (w : List ℕ)
    (ws : List (List ℕ)) (d : ℕ) (c : Node) (e : seek ws (volume_of s).root g.block g.node ≡ a_dir d (block_in s d) c) where
  abbrev after : Option Tree
  after = in_directory ws (emptied w) t

  seen : Seen (length ws) (height g.node) (a_dir d (block_in s d) c)
  seen = sought_seen g ws (a_dir d (block_in s d) c) e

  all : (f : Item → ℕ) → f (d, block_in s d) + sum_of f c ≤ sum f (objects (volume_of s))
  all f = sought_weight g ws (a_dir d (block_in s d) c) e f

  has : Has (volume_of s) d (block_in s d)
  has = counted_has g d (block_in s d) (dir_there (block_in s d) seen.0.1.is_dir) (λ f. omega (arith, all f))

  module _ (i : ℕ) (o : Out w d c i) where
    abbrev x : Held
    x = o.held

    long : i < total (block_in s d)
    long = omega (arith, total-row (block_in s d) c seen.0.1.is_dir seen.0.1.slots, o.inside)

    -- the slot names what the tree has there
    slot_is : slot_at (block_in s d) i ≡ (x.name, x.ref)
    slot_is = sym (slot_row (block_in s d) c seen.0.1.is_dir seen.0.1.slots i long) ∙ o.slot

    object-is : block_in s x.ref ≡ x.block
    object-is = has_block (counted_has g x.ref x.block x.real (λ f. omega (arith, all f, o.sums f)))

    -- with no taken slot, nothing is below it
    bare : taken_count (slots (block_in s (slot_at (block_in s d) i).1)) ≡ 0 → (f : Item → ℕ) → sum_of f x.below ≡ 0
    bare z f =
        untaken_sum f x.ref x.below x.below-stands
        (ap taken_count (sym x.below-slots) ∙ ap (λ (b : Block). taken_count (slots b)) (sym object-is) ∙ ap (λ (y : Slot). taken_count (slots (block_in s y.1))) (sym slot_is) ∙ z)

    -- it is gone
    cut : taken_count (slots (block_in s (slot_at (block_in s d) i).1)) ≡ 0 → Answered n t after Accepted (image (removed s d i))
    cut z =
        let m = removed_move (good_volume g) has x.label x.block (name-there x.label x.named_so.is_name) x.real x.name x.ref i (omega (arith, long))
        (λ f. omega (arith, all f, o.sums f)) in
        let y : Exchange d (block_in s d) c (emptied w) = record {
          block = slotted (block_in s d) i 0 0;
          row = o.row;
          stands = λ up h. slotted_node i 0 0 o.inside (omega arith) (omega arith) o.slots_are h;
          row-stands = o.stands;
          book = o.book;
        } in
        subst (λ (r : Slot). Answered n t after Accepted (image (with_root s (released r.1 (released r.0 (set_slot d i 0 0 (volume_of s).extents)))))) (sym slot_is)
        (kept_edited g m.sound refl (in_directory ws (emptied w))
        (edited y g.rep ws e (λ f. omega (arith, m.sums f, o.sums f, bare z f)) (refs_once _) (omega (arith, o.low, seen.2, g.rep.low))))

  -- refused, or gone
  remove_in_lem : AnsweredBy n t after (remove_in s w d)
  unfolding remove_in
  remove_in_lem = by_name (slot_named (objects (volume_of s)) (block_in s d) w) refl
    where
      by_count : (i : ℕ) → Out w d c i → (q : Bool) → eqb (taken_count (slots (block_in s (slot_at (block_in s d) i).1))) 0 ≡ q
          → AnsweredBy n t after (elim q [ false ↦ unchanged (For NotEmpty) s | true ↦ done (removed s d i) ])
      by_count i o false q = kept_reason g after NotEmpty
      by_count i o true q = cut i o (eqb-true _ 0 q)

      by_name : (o : Option ℕ) → slot_named (objects (volume_of s)) (block_in s d) w ≡ o
          → AnsweredBy n t after (elim o [
            | none ↦ unchanged (For NotFound) s
            | some i ↦ elim (eqb (taken_count (slots (block_in s (slot_at (block_in s d) i).1))) 0) [ false ↦ unchanged (For NotEmpty) s | true ↦ done (removed s d i) ]
          ])
      by_name none q = kept_reason g after NotFound
      by_name (some i) q =
          let r = named-row (objects (volume_of s)) g.rep.once w d seen.0.0 (block_in s d) c seen.0.1 seen.1 (λ f. omega (arith, all f)) in
          by_count i (take_out w d c i (sym r ∙ q) seen.1) (eqb (taken_count (slots (block_in s (slot_at (block_in s d) i).1))) 0) refl

-- ---- on a path

pub remove-kept : {n : ℕ} {s : List ℕ} {t : Tree} → Good n s t → (path : List ℕ) → AnsweredBy n t (at_last (λ w. emptied w) path t) (remove s path)
unfolding remove
remove-kept {n} {s} {t} g path =
    above_cases (λ x. AnsweredBy n t (at_last (λ w. emptied w) path t) (remove_at s (last_name path) x)) s path true
    (kept-refused g (at_last (λ w. emptied w) path t)) IsRoot
    (λ d h v a w ws c e k.
    let y = reached-directory g (all_but_last (w ∷ ws)) d e k in
    subst (λ (t' : Option Tree). AnsweredBy n t t' (remove_in s (last_name path) d)) (sym (at_last_lem path w ws c (λ w. emptied w) t))
    (remove_in_lem g (last_name path) (all_but_last (w ∷ ws)) d y.0 y.1))

-- Write and set length keep an image good, and the book's file has the bytes by its rules.
use Rattle.changes.specs.Changing as changing
use Prim.Native.Nat.{◌+◌, ◌<◌, ◌≤◌, max, min, ℕ}
use mathlib.Core.Bool.{Bool, cond, false, true}
use mathlib.Core.List.{List, [], ◌∷◌}
use mathlib.Core.Option.{Option, some}
use mathlib.Core.Path.{◌∙◌, ◌≡◌, ap, refl, subst, sym}
use native.Mathlib.Omega.{arith}
use lib.Dec.{leb}
use lib.ListN.{length}
use borrow.Author.Tests.{leb-true}
use Rattle.storage.specs.Bytes.{be64}
use Rattle.storage.proofs.Numbers.{length-be64}
use Rattle.storage.proofs.Splice.{length-splice}
use Rattle.path.specs.Path.{all_but_last, components}
use Rattle.alloc.specs.Block.{Block}
use Rattle.alloc.specs.Room.{updated}
use Rattle.alloc.specs.Sound.{SoundVolume}
use Rattle.alloc.specs.Volume.{Volume, image, objects, volume_of}
use Rattle.alloc.proofs.Data.{spliced}
use Rattle.alloc.proofs.Heads.{volume}
use Rattle.tree.specs.Fields.{file_size, is_file, room}
use Rattle.tree.proofs.Formed.{file-there}
use Rattle.calls.specs.declared.refusal.Reason.TheVariants.{IsDirectory, PastRoom}
use Rattle.calls.specs.Refusal.{Accepted, For}
use Rattle.calls.specs.Reading.{block_in}
use Rattle.calls.specs.Walk.{last_name, reached, walk_from}
use Rattle.changes.specs.Changing.{set_length, set_length_at, set_length_of, unchanged, write, write_at, write_to}
use Rattle.history.specs.Book.{Tree, changed, in_directory, resized, written}
use Rattle.history.specs.History.{at_last}
use Rattle.history.proofs.Beginning.{start_cases}
use Rattle.history.proofs.Bodies.{Rewritten, by_length, by_write, gap_then, gap_to, length-inside, rewritten, write-inside}
use Rattle.history.proofs.BytesEdit.{swap}
use Rattle.history.proofs.Edits.{Exchange, edited}
use Rattle.history.proofs.Good.{Good}
use Rattle.history.proofs.LastName.{at_last_lem, last_split}
use Rattle.history.proofs.Moves.{Has, Move, has_size, updated_move}
use Rattle.history.proofs.Nodes.{FileNode, a_dir, a_file, seek}
use Rattle.history.proofs.Refs.{refs_once}
use Rattle.history.proofs.Sighted.{Answered, AnsweredBy, counted_has, good_volume, kept_edited, kept_reason, kept-refused, reached-file, sought_seen, sought_weight}
use Rattle.history.proofs.Sights.{Holder, file-holder}
use Rattle.history.proofs.Sums.{Item, member_le, sum, this, this_self}

-- ---- bytes over the content, then the size

stored_move : {n : ℕ} {v : Volume} → SoundVolume n v → {r : ℕ} {b : Block} → Has v r b → (size from : ℕ) (x : List ℕ) → 16 ≤ length b.body → from + length x ≤ room b
    → Move n v (volume v.root (updated r 0 (be64 size) 2 (updated r (16 + from) x 2 v.extents))) (λ f. f (r, b)) (λ f. f (r, rewritten b size from x))
stored_move {n} {v} k {r} {b} h size from x l i =
    let c : Block = spliced b (16 + from) x in
    let u = updated_move k h (16 + from) x (omega arith) in
    let there : Has (volume v.root (updated r (16 + from) x 2 v.extents)) r c = record {
      counted = omega (arith, u.sums (this r c), this_self r c, member_le (this r c) r b (objects v) h.counted);
      real = h.real;
    } in
    let w = updated_move u.sound there 0 (be64 size) (omega (arith, length-be64 size, length-splice b.body x (16 + from) (omega arith))) in
    record { sound = w.sound; sums = λ f. omega (arith, w.sums f, u.sums f) }

-- ---- the file that is reached

module _ {n : ℕ} {s : List ℕ} {t : Tree} (g : Good n s t) (path : List ℕ) (r : ℕ)
    (e : seek (components path) (volume_of s).root g.block g.node ≡ a_file r (block_in s r)) where
  abbrev b : Block
  b = block_in s r

  seen : FileNode r b
  seen = sought_seen g (components path) (a_file r b) e

  has : Has (volume_of s) r b
  has = counted_has g r b (file-there b seen.is_file) (sought_weight g (components path) (a_file r b) e)

  small : length b.body < 4294967296
  small = has_size has (good_volume g)

  -- its block changed, and its bytes by f
  module _ (x : Block) (f : List ℕ → List ℕ) (y : Rewritten r b x f) {v : Volume} (k : SoundVolume n v) (q : v.root ≡ (volume_of s).root)
      (sums : (h : Item → ℕ) → sum h (objects v) + h (r, b) ≡ sum h (objects (volume_of s)) + h (r, x)) where
    -- in its directory
    in_holder : (ws : List (List ℕ)) (w : List ℕ) → Holder (seek ws (volume_of s).root g.block g.node) w r b
        → Answered n t (in_directory ws (changed w f) t) Accepted (image v)
    in_holder ws w h =
        let z = sought_seen g ws (a_dir h.ref h.block h.row) h.found in
        let p = swap w r b x f y h.ref h.row z.1 h.there in
        let u : Exchange h.ref h.block h.row (changed w f) = record {
          block = h.block;
          row = p.row;
          stands = λ up i. record { some = i.some; is_dir = i.is_dir; parent = i.parent; slots = i.slots ∙ sym p.slots };
          row-stands = p.stands;
          book = p.book;
        } in
        kept_edited g k q (in_directory ws (changed w f))
        (edited u g.rep ws h.found (λ i. omega (arith, sums i, p.sums i)) (refs_once v) (omega (arith, p.low, z.2, g.rep.low)))

    pub file-changed : Answered n t (at_last (λ w. changed w f) path t) Accepted (image v)
    file-changed = go (components path) refl
      where
        go : (ws : List (List ℕ)) → components path ≡ ws → Answered n t (at_last (λ w. changed w f) path t) Accepted (image v)
        go [] c =
            let i : a_dir (volume_of s).root g.block g.node ≡ a_file r b = ap (λ (us : List (List ℕ)). seek us (volume_of s).root g.block g.node) (sym c) ∙ e in
            let z : ◌≡◌ {A = ℕ} 0 1 = cc in
            absurd (omega arith)
        go (w ∷ ws) c =
            let i = ap (λ (us : List (List ℕ)). seek us (volume_of s).root g.block g.node) (last_split path w ws c ∙ sym c) ∙ e in
            subst (λ (t' : Option Tree). Answered n t t' Accepted (image v)) (sym (at_last_lem path w ws c (λ w. changed w f) t))
            (in_holder (all_but_last (w ∷ ws)) (last_name path) (file-holder (last_name path) r b (all_but_last (w ∷ ws)) (volume_of s).root g.block g.node i))

  -- by a write, and by a set length
  written-kept : (position y : ℕ) (ys : List ℕ) → position + length (y ∷ ys) ≤ room b
      → AnsweredBy n t (at_last (λ w. changed w (written position (y ∷ ys))) path t) (changing.written s r position (y ∷ ys))
  written-kept position y ys l =
      let m = stored_move (good_volume g) has (max (file_size b) (position + length (y ∷ ys))) (min position (file_size b)) (gap_then b position (y ∷ ys))
      seen.whole (write-inside r b seen small position (y ∷ ys) l) in
      file-changed _ (written position (y ∷ ys)) (by_write r b seen small position (y ∷ ys) l) m.sound refl m.sums

  resized-kept : (size : ℕ) → size ≤ room b → AnsweredBy n t (at_last (λ w. changed w (resized size)) path t) (changing.resized s r size)
  resized-kept size l =
      let m = stored_move (good_volume g) has size (min size (file_size b)) (gap_to b size) seen.whole (length-inside r b seen small size l) in
      file-changed _ (resized size) (by_length r b seen small size l) m.sound refl m.sums

-- ---- on a path

pub write_kept : {n : ℕ} {s : List ℕ} {t : Tree} → Good n s t → (path : List ℕ) (position y : ℕ) (ys : List ℕ)
    → AnsweredBy n t (at_last (λ w. changed w (written position (y ∷ ys))) path t) (write s path position (y ∷ ys))
unfolding write
write_kept {n} {s} {t} g path position y ys =
    start_cases (λ x. AnsweredBy n t t' (write_at s position (y ∷ ys) x)) s path true (kept-refused g t')
    (λ r h v a e. by_kind r e (is_file (block_in s r)) refl)
  where
    t' : Option Tree
    t' = at_last (λ w. changed w (written position (y ∷ ys))) path t

    by_room : (r : ℕ) → seek (components path) (volume_of s).root g.block g.node ≡ a_file r (block_in s r) → (q : Bool)
        → leb (position + length (y ∷ ys)) (room (block_in s r)) ≡ q → AnsweredBy n t t' (cond q (changing.written s r position (y ∷ ys)) (unchanged (For PastRoom) s))
    by_room r e true q = written-kept g path r e position y ys (leb-true _ _ q)
    by_room r e false q = kept_reason g t' PastRoom

    by_kind : (r : ℕ) → walk_from s (components path) ≡ reached r → (q : Bool) → is_file (block_in s r) ≡ q
        → AnsweredBy n t t' (cond q (write_to s r position (y ∷ ys)) (unchanged (For IsDirectory) s))
    by_kind r e true q = by_room r (reached-file g (components path) r e q) (leb (position + length (y ∷ ys)) (room (block_in s r))) refl
    by_kind r e false q = kept_reason g t' IsDirectory

-- no bytes change nothing
pub write_none : {n : ℕ} {s : List ℕ} {t : Tree} → Good n s t → (path : List ℕ) (position : ℕ) → AnsweredBy n t (some t) (write s path position [])
unfolding write
write_none {n} {s} {t} g path position =
    start_cases (λ x. AnsweredBy n t (some t) (write_at s position [] x)) s path true (kept-refused g (some t)) (λ r h v a e. by_kind r (is_file (block_in s r)))
  where
    by_room : (r : ℕ) (q : Bool) → AnsweredBy n t (some t) (cond q (changing.written s r position []) (unchanged (For PastRoom) s))
    by_room r true = (t, refl, g)
    by_room r false = kept_reason g (some t) PastRoom

    by_kind : (r : ℕ) (q : Bool) → AnsweredBy n t (some t) (cond q (write_to s r position []) (unchanged (For IsDirectory) s))
    by_kind r true = by_room r (leb (position + length {A = ℕ} []) (room (block_in s r)))
    by_kind r false = kept_reason g (some t) IsDirectory

pub length-kept : {n : ℕ} {s : List ℕ} {t : Tree} → Good n s t → (path : List ℕ) (size : ℕ)
    → AnsweredBy n t (at_last (λ w. changed w (resized size)) path t) (set_length s path size)
unfolding set_length
length-kept {n} {s} {t} g path size =
    start_cases (λ x. AnsweredBy n t t' (set_length_at s size x)) s path true (kept-refused g t')
    (λ r h v a e. by_kind r e (is_file (block_in s r)) refl)
  where
    t' : Option Tree
    t' = at_last (λ w. changed w (resized size)) path t

    by_room : (r : ℕ) → seek (components path) (volume_of s).root g.block g.node ≡ a_file r (block_in s r) → (q : Bool)
        → leb size (room (block_in s r)) ≡ q → AnsweredBy n t t' (cond q (changing.resized s r size) (unchanged (For PastRoom) s))
    by_room r e true q = resized-kept g path r e size (leb-true _ _ q)
    by_room r e false q = kept_reason g t' PastRoom

    by_kind : (r : ℕ) → walk_from s (components path) ≡ reached r → (q : Bool) → is_file (block_in s r) ≡ q
        → AnsweredBy n t t' (cond q (set_length_of s r size) (unchanged (For IsDirectory) s))
    by_kind r e true q = by_room r (reached-file g (components path) r e q) (leb size (room (block_in s r))) refl
    by_kind r e false q = kept_reason g t' IsDirectory

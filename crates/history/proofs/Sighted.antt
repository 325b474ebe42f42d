-- What the tree of a good image has where a walk leads, and images of changed volumes that are good again.
use Prim.Native.Nat.{◌<◌, ◌≤◌, ℕ}
use mathlib.Core.Bool.{Bool, cond, true, true≢false}
use mathlib.Core.List.{List}
use mathlib.Core.Option.{Option, some}
use mathlib.Core.Path.{◌∙◌, ◌≡◌, ap, refl, subst, sym}
use native.Mathlib.Omega.{arith}
use lib.ListN.{length}
use Rattle.calls.proofs.Contents.{file_no_dir}
use Rattle.alloc.specs.Block.{Block}
use Rattle.alloc.specs.Sound.{SoundVolume}
use Rattle.alloc.specs.Volume.{Objects, Volume, image, objects, volume_of}
use Rattle.alloc.proofs.Soundness.{image-length, image-sound, image-volume}
use Rattle.tree.specs.Fields.{is_dir, is_file}
use Rattle.tree.proofs.Formed.{dir_there, file-there}
use Rattle.calls.specs.declared.refusal.Reason.{Reason}
use Rattle.calls.specs.Refusal.{Accepted, For, Refusal, accepted}
use Rattle.calls.specs.Reading.{block_in}
use Rattle.calls.specs.Walk.{reached, walk_from, walked}
use Rattle.changes.specs.Changing.{Outcome}
use Rattle.history.specs.Book.{Tree}
use Rattle.history.proofs.Beginning.{Refuses, by_reason, refuses}
use Rattle.history.proofs.Edits.{Edited}
use Rattle.history.proofs.Good.{Good}
use Rattle.history.proofs.Holds.{good_formed}
use Rattle.history.proofs.Moves.{Has, has_block}
use Rattle.history.proofs.Nodes.{Node, Rep, Sought, a_dir, a_file, barred, book_of, height, nowhere, seek, walk_of}
use Rattle.history.proofs.Sights.{Seen, seen_seek, weight, weight_seek}
use Rattle.history.proofs.Sums.{Item, sum, this, this_self}
use Rattle.history.proofs.Walks.{walk_is}

-- ---- the answer m of a call, and the book t' that it would leave accepted

abbrev pub Answered : ℕ → Tree → Option Tree → Refusal → List ℕ → Type 0
Answered n t t' m s = (u : Tree) × (cond (accepted m) t' (some t) ≡ some u) × Good n s u

abbrev pub AnsweredBy : ℕ → Tree → Option Tree → Outcome → Type 0
AnsweredBy n t t' o = Answered n t t' o.refusal o.image

module _ {n : ℕ} {s : List ℕ} {t : Tree} (g : Good n s t) where
  abbrev os : Objects
  os = objects (volume_of s)

  abbrev root : ℕ
  root = (volume_of s).root

  pub kept-refused : (t' : Option Tree) (r : Refusal) → Refuses s r → Answered n t t' r s
  kept-refused t' r e = (t, ap (λ (q : Bool). cond q t' (some t)) (refuses e), g)

  pub kept_reason : (t' : Option Tree) (w : Reason) → Answered n t t' (For w) s
  kept_reason t' w = kept-refused t' (For w) (by_reason (good_formed n s t g) w)

  pub good_volume : SoundVolume n (volume_of s)
  good_volume = subst (λ (m : ℕ). SoundVolume m (volume_of s)) g.long g.sound.volume

  -- a changed volume, and its tree
  pub kept_edited : {w : Volume} → SoundVolume n w → w.root ≡ root → (f : Tree → Option Tree) → Edited (objects w) root (f (book_of g.node)) → Answered n t (f t) Accepted (image w)
  kept_edited {w} k e f x = (
    book_of x.node,
    ap f (sym g.book) ∙ x.book,
    record {
      sound = image-sound k;
      long = image-length k;
      block = x.block;
      node = x.node;
      rep = subst (λ (v : Volume). Rep (objects v) v.root x.block x.node) (sym (image-volume k))
          (subst (λ (r : ℕ). Rep (objects w) r x.block x.node) (sym e) x.rep);
      book = refl;
    },
  )

  -- what counts in every sum is an object
  pub counted_has : (r : ℕ) (b : Block) → 0 < b.magic → ((f : Item → ℕ) → f (r, b) ≤ sum f os) → Has (volume_of s) r b
  counted_has r b m h = record { counted = omega (arith, h (this r b), this_self r b); real = m }

  -- ---- what is sought

  module _ (ws : List (List ℕ)) where
    abbrev sought : Sought
    sought = seek ws root g.block g.node

    pub sought_seen : (x : Sought) → sought ≡ x → Seen (length ws) (height g.node) x
    sought_seen x e = subst (Seen (length ws) (height g.node)) e (seen_seek ws root root g.block g.node g.rep.top g.rep.row)

    pub sought_weight : (x : Sought) → sought ≡ x → (f : Item → ℕ) → weight f x ≤ sum f os
    sought_weight x e f = omega (arith, weight_seek f ws root g.block g.node, g.rep.alike f, ap (weight f) e)

    walked-is : walk_from s ws ≡ walked (walk_of sought)
    walked-is = ap walked (walk_is os root g.block g.node g.rep ws)

    -- a directory that a walk reaches
    pub reached-directory : (d : ℕ) → walk_from s ws ≡ reached d → is_dir (block_in s d) ≡ true → (c : Node) × (sought ≡ a_dir d (block_in s d) c)
    reached-directory d e k = go sought refl (sym walked-is ∙ e)
      where
        go : (x : Sought) → sought ≡ x → walked (walk_of x) ≡ reached d → (c : Node) × (x ≡ a_dir d (block_in s d) c)
        go nowhere q h = let z : ◌≡◌ {A = ℕ} 0 1 = cc in absurd (omega arith)
        go barred q h = let z : ◌≡◌ {A = ℕ} 0 1 = cc in absurd (omega arith)
        go (a_file o b) q h =
            let i : o ≡ d = cc in
            let f = sought_seen (a_file o b) q in
            let y = has_block (counted_has o b (file-there b f.is_file) (sought_weight (a_file o b) q)) in
            absurd (true≢false (sym k ∙ ap (λ (r : ℕ). is_dir (block_in s r)) (sym i) ∙ ap is_dir y ∙ file_no_dir b f.is_file))
        go (a_dir o b c) q h =
            let i : o ≡ d = cc in
            let f = sought_seen (a_dir o b c) q in
            let y = has_block (counted_has o b (dir_there b f.0.1.is_dir) (λ h. omega (arith, sought_weight (a_dir o b c) q h))) in
            (c, λ j. a_dir (i j) ((sym y ∙ ap (block_in s) i) j) c)

    -- a file that a walk reaches
    pub reached-file : (r : ℕ) → walk_from s ws ≡ reached r → is_file (block_in s r) ≡ true → sought ≡ a_file r (block_in s r)
    reached-file r e k = go sought refl (sym walked-is ∙ e)
      where
        go : (x : Sought) → sought ≡ x → walked (walk_of x) ≡ reached r → x ≡ a_file r (block_in s r)
        go nowhere q h = let z : ◌≡◌ {A = ℕ} 0 1 = cc in absurd (omega arith)
        go barred q h = let z : ◌≡◌ {A = ℕ} 0 1 = cc in absurd (omega arith)
        go (a_file o b) q h =
            let i : o ≡ r = cc in
            let f = sought_seen (a_file o b) q in
            let y = has_block (counted_has o b (file-there b f.is_file) (sought_weight (a_file o b) q)) in
            λ j. a_file (i j) ((sym y ∙ ap (block_in s) i) j)
        go (a_dir o b c) q h =
            let i : o ≡ r = cc in
            let f = sought_seen (a_dir o b c) q in
            let y = has_block (counted_has o b (dir_there b f.0.1.is_dir) (λ h. omega (arith, sought_weight (a_dir o b c) q h))) in
            absurd (true≢false (sym f.0.1.is_dir ∙ ap is_dir (sym y) ∙ ap (λ (u : ℕ). is_dir (block_in s u)) i ∙ file_no_dir (block_in s r) k))

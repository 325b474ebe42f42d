-- Walks over the blocks of a tiled image: a ref that is reached cuts it.
use Prim.Native.Nat.{ℕ, ◌+◌, ◌*◌, ◌<◌, ◌≤◌}
use mathlib.Core.List.{List, [], ◌∷◌, ◌++◌}
use mathlib.Core.Path.{◌≡◌, refl, ap, sym, ◌∙◌, subst}
use mathlib.Core.Bool.{Bool, true, false}
use native.Mathlib.Omega.{arith}
use lib.Dec.{ltb}
use borrow.Author.Tests.{ltb-true, ltb-false}
use lib.ListN.{length}
use denote.Ref.{Bor}
use Rattle.std.specs.Prelude.{Some, None}
use Rattle.alloc.specs.declared.access.Block.{Block}
use Rattle.alloc.specs.declared.tiled.Blocks.{Blocks}
use Rattle.alloc.specs.Block.{units_for, size_at, block_of}
use Rattle.alloc.specs.Volume.{Extent, extent_of, volume_of}
use Rattle.alloc.specs.Sound.{size_of, end_of, Tiled, Standing}
use Rattle.alloc.specs.Walked.{Reached, Passes}
use Rattle.alloc.proofs.Cuts.{extents_from, extents-end, extents-at, Cut, tiled-long, extents-start, cut_start, cut_fits, cut_standing, cut_on, size_here}

-- a row of extents that a cut has ahead is walked over to its end
past_cut : (s : List ℕ) (past rest : List Extent) (r : ℕ) → Cut s r (16 * r) → extents_from s r ≡ past ++ rest → Cut s (end_of r past) (16 * end_of r past)
unfolding end_of
past_cut s [] rest r w e = w
past_cut s (x ∷ past) rest r w e = go (ltb (16 * r) (length s)) refl (past_cut s past rest)
  where
    go : (q : Bool) → ltb (16 * r) (length s) ≡ q
        → ((k : ℕ) → Cut s k (16 * k) → extents_from s k ≡ past ++ rest → Cut s (end_of k past) (16 * end_of k past))
        → Cut s (end_of (r + size_of x) past) (16 * end_of (r + size_of x) past)
    go false q ih =
        let z : [] ≡ x ∷ (past ++ rest) = sym (extents-end s r (ltb-false (16 * r) (length s) q)) ∙ e in
        let y : ◌≡◌ {A = ℕ} 0 1 = cc in
        absurd (omega arith)
    go true q ih =
        let h = ltb-true (16 * r) (length s) q in
        let n : ℕ = r + units_for (size_at s r) in
        let p : extent_of (block_of s r) ∷ extents_from s n ≡ x ∷ (past ++ rest) = sym (extents-at s r h) ∙ e in
        let a : extent_of (block_of s r) ≡ x = cc in
        let b : extents_from s n ≡ past ++ rest = cc in
        let u : n ≡ r + size_of x = ap (λ (k : ℕ). r + k) (sym (size_here w h) ∙ ap size_of a) in
        subst (λ (k : ℕ). Cut s (end_of k past) (16 * end_of k past)) u (ih n (cut_on w h n (16 * n) refl refl) b)

module _ {s : List ℕ} {r : ℕ} (w : Reached s r) where
  pub reached_cut : Cut s r (16 * r)
  reached_cut =
      subst (λ (k : ℕ). Cut s k (16 * k)) w.ref
      (past_cut s w.past w.rest 2 (cut_start w.tiled) (sym (extents-start w.tiled) ∙ w.parts))

  pub reached_small : length s ≤ 1048576
  reached_small = (tiled-long w.tiled).1

  module _ (h : 16 * r < length s) where
    pub reached_standing : Standing s r
    reached_standing = cut_standing reached_cut h

    pub reached_on : (q : ℕ) → q ≡ r + units_for (size_at s r) → Reached s q
    reached_on q e =
        let c = cut_on reached_cut h q (16 * q) e refl in
        record { tiled = w.tiled; past = c.past; rest = extents_from s q; parts = c.parts; ref = c.ref; inside = omega (arith, cut_fits reached_cut h) }

pub reached_start : {s : List ℕ} → Tiled s → Reached s 2
unfolding end_of
reached_start {s} t = record { tiled = t; past = []; rest = (volume_of s).extents; parts = refl; ref = refl; inside = omega (arith, tiled-long t) }

-- ---- a loop over the blocks of s, at the iterator b

pub record OnBlocks (s : List ℕ) (b : Blocks) : Type 0 where
  pub reached : Reached b.image.now b.next.0
  pub image : b.image.now ≡ s

-- a call of next took b to c, and gave the block x
pub record Passed (s : List ℕ) (b c : Blocks) (x : Block) : Type 0 where
  pub walk : OnBlocks s c
  pub image : x.image.now ≡ s
  pub here : x.at.0 ≡ b.next.0
  pub standing : Standing s b.next.0
  pub more : 16 * b.next.0 < length s
  pub next : c.next.0 ≡ b.next.0 + units_for (size_at s b.next.0)

pub walk_starts : {s : List ℕ} {b c : Blocks} → (b.image.now ≡ s) × (b.next.0 ≡ 2) × Reached s 2 → c ≡ b → OnBlocks s c × (c.next.0 ≡ 2)
walk_starts {s} {b} {c} (e, f, w) q = (
  record {
    reached = subst (λ (i : Blocks). Reached i.image.now i.next.0) (sym q) (subst (λ (i : List ℕ). Reached i b.next.0) (sym e) (subst (Reached s) (sym f) w));
    image = ap (λ (i : Blocks). i.image.now) q ∙ e;
  },
  ap (λ (i : Blocks). i.next.0) q ∙ f,
)

module _ {s : List ℕ} {b : Blocks} (w : OnBlocks s b) where
  pub passed : (c : Blocks) (x : Block) → (c.image ≡ b.image) × Passes b.image.now b.next.0 (Some x) c.next.0 → Passed s b c x
  passed c x g =
      let k : Reached s b.next.0 = subst (λ (i : List ℕ). Reached i b.next.0) w.image w.reached in
      let h : 16 * b.next.0 < length s = subst (λ (i : List ℕ). 16 * b.next.0 < length i) w.image g.1.2 in
      let n : c.next.0 ≡ b.next.0 + units_for (size_at s b.next.0) = g.1.3 ∙ ap (λ (i : List ℕ). b.next.0 + units_for (size_at i b.next.0)) w.image in
      let e : c.image.now ≡ s = ap (λ (i : Bor (List ℕ)). i.now) g.0 ∙ w.image in
      record {
        walk = record { reached = subst (λ (i : List ℕ). Reached i c.next.0) (sym e) (reached_on k h c.next.0 n); image = e };
        image = g.1.0 ∙ w.image;
        here = g.1.1;
        standing = reached_standing k h;
        more = h;
        next = n;
      }

  -- it gave none: the image ends
  pub passed_all : (c : Blocks) → (c.image ≡ b.image) × Passes b.image.now b.next.0 None c.next.0 → length s ≤ 16 * b.next.0
  passed_all c g = subst (λ (i : List ℕ). length i ≤ 16 * b.next.0) w.image g.1

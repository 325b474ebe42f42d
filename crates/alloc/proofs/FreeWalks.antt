-- Loops over the free blocks of a sound image, at an iterator along the chain.
use Prim.Native.Nat.{ℕ, ◌+◌, ◌*◌, ◌/◌, ◌<◌, ◌≤◌}
use mathlib.Core.List.{List, [], ◌∷◌, map}
use mathlib.Core.Path.{◌≡◌, refl, ap, sym, ◌∙◌, subst}
use native.Mathlib.Omega.{arith}
use native.Mathlib.Nat.{add-zero}
use denote.Ref.{Bor}
use lib.ListN.{length}
use Rattle.std.specs.Prelude.{Some, None, IfSome, option_map}
use Rattle.std.specs.Prelude.{Option as Maybe}
use Rattle.std.specs.Iterator.{AlwaysYields}
use Rattle.std.proofs.lemmas.Iterator.{YieldsList}
use Rattle.storage.specs.Bytes.{u64_at}
use Rattle.alloc.specs.declared.fit.Gap.{Gap}
use Rattle.alloc.specs.declared.fit.FreeChain.{FreeChain}
use Rattle.alloc.specs.Block.{size_at}
use Rattle.alloc.specs.Sound.{Sound}
use Rattle.alloc.specs.Steps.{Link, Stands, Finds}
use Rattle.alloc.specs.Volume.{volume_of}
use Rattle.alloc.specs.Sound.{end_of}
use Rattle.alloc.specs.Answers.{link_of, fit_of, GapIn}
use Rattle.alloc.specs.Walked.{OnChain, Comes, Follows}
use Rattle.alloc.proofs.Heads.{hook}
use Rattle.alloc.proofs.Walks.{Walk, walk_start, hook_none, walk_meets, met_inside, met_sound}
use Rattle.alloc.specs.Gaps.{gaps, tightest}
use Rattle.alloc.specs.Gaps.{Gap as Free}
use Rattle.alloc.proofs.Fits.{Sees, sees, seen_inside, seen_units, seen_on, still, still_more, still_none, still-on, chain_links}
use Rattle.alloc.proofs.Fits.{links-gaps, links-stand, gap_of, Each, smallest, smallest-tightest, smallest-keeps, gap_found}

pub chain_walk : {s : List ℕ} {h n : ℕ} → OnChain s h n → Walk s h n
unfolding hook
chain_walk w = record { sound = w.sound; pre = w.past; rest = w.rest; parts = w.parts; at-hook = w.hooks; reads = w.reads }

pub walk_chain : {s : List ℕ} {h n : ℕ} → Walk s h n → OnChain s h n
unfolding hook
walk_chain w = record { sound = w.sound; past = w.pre; rest = w.rest; parts = w.parts; hooks = w.at-hook; reads = w.reads }

pub chain_start : {s : List ℕ} {n : ℕ} → Sound s → n ≡ u64_at s 16 → OnChain s 16 n
chain_start k e = walk_chain (walk_start k e)

-- past the free block; the hook rises
pub chain_on : {s : List ℕ} {h n u o m : ℕ} → OnChain s h n → 0 < n → Sees s n u o m → OnChain s o m × (h < o) × (o + 8 ≤ length s)
chain_on w p c =
    let i = seen_inside (chain_walk w) p in
    (walk_chain (seen_on (chain_walk w) p c), omega (arith, i, c.inner), omega (arith, i, c.inner))

module _ {s : List ℕ} {h n o m : ℕ} {g : Gap} (c : Comes s h n g o m) where
  pub comes_sees : Sees s n g.units o m
  comes_sees = record { room = ap (λ (l : Link). l.units) c.link; inner = c.inner ∙ sym (add-zero (16 * n + 8)); reads = c.reads }

  pub comes_at : g.at.0 ≡ n
  comes_at = ap (λ (l : Link). l.at) c.link

-- ---- a loop over the free blocks of s, at the iterator f

pub record OnGaps (s : List ℕ) (f : FreeChain) : Type 0 where
  pub chain : OnChain f.image.now f.hook.0 f.at.0
  pub image : f.image.now ≡ s

-- a call of next took f to k, and gave g
pub record Met (s : List ℕ) (f k : FreeChain) (g : Gap) : Type 0 where
  pub walk : OnGaps s k
  pub comes : Comes s f.hook.0 f.at.0 g k.hook.0 k.at.0

pub gaps_start : {s : List ℕ} {f k : FreeChain} → (f.image.now ≡ s) × (f.hook.0 ≡ 16) × OnChain s 16 f.at.0 → k ≡ f
    → OnGaps s k × (k.hook.0 ≡ 16) × OnChain s 16 k.at.0
gaps_start {s} {f} {k} (e, a, w) q =
    subst (λ (i : FreeChain). OnGaps s i × (i.hook.0 ≡ 16) × OnChain s 16 i.at.0) (sym q) (
      record { chain = subst (λ (i : List ℕ). OnChain i f.hook.0 f.at.0) (sym e) (subst (λ (i : ℕ). OnChain s i f.at.0) (sym a) w); image = e },
      a,
      w,
    )

module _ {s : List ℕ} {f : FreeChain} (w : OnGaps s f) where
  -- it gave none: the chain ends
  pub met_all : (k : FreeChain) → (k.image ≡ f.image) × Follows f.image.now f.hook.0 f.at.0 None k.hook.0 k.at.0 → f.at.0 ≡ 0
  met_all k e = e.1

  pub met : (k : FreeChain) {g : Gap} → (k.image ≡ f.image) × Follows f.image.now f.hook.0 f.at.0 (Some g) k.hook.0 k.at.0 → Met s f k g
  met k {g} e =
      let i : k.image.now ≡ f.image.now = ap (λ (x : Bor (List ℕ)). x.now) e.0 in
      record {
        walk = record { chain = subst (λ (x : List ℕ). OnChain x k.hook.0 k.at.0) (sym i) (chain_on w.chain e.1.there (comes_sees e.1)).0; image = i ∙ w.image };
        comes = subst (λ (x : List ℕ). Comes x f.hook.0 f.at.0 g k.hook.0 k.at.0) w.image e.1;
      }

  pub met_gap : {k : FreeChain} {g : Gap} → Met s f k g → GapIn s g
  met_gap {k} {g} p =
      let o : OnChain s f.hook.0 f.at.0 = subst (λ (x : List ℕ). OnChain x f.hook.0 f.at.0) w.image w.chain in
      let c = p.comes in
      let v = chain_walk o in
      let n = comes_at c in (
        omega (arith, n, c.there),
        record {
          is = ap (λ (l : Link). l.units) c.link ∙ ap (λ (r : ℕ). (size_at s r + 8) / 16) (sym n);
          small = omega (arith, seen_units v c.there (comes_sees c), met_inside v (walk_meets v c.there), o.sound.volume.long, o.sound.volume.extents.small);
        },
      )

-- ---- the free blocks that the iterator gives, all of them

abbrev pub ChainSteps : FreeChain → Maybe Gap → FreeChain → Type 0
ChainSteps f g k = (k.image ≡ f.image) × Follows f.image.now f.hook.0 f.at.0 g k.hook.0 k.at.0

chain-yields : {s : List ℕ} (gs : List Free) (f : FreeChain) → f.image.now ≡ s → (w : Walk s f.hook.0 f.at.0) → still w ≡ gs
    → AlwaysYields ChainSteps link_of f (chain_links s f.hook.0 f.at.0 gs)
chain-yields {s} [] f q w e = λ g k t. still_none w e t.1.there
chain-yields {s} (h ∷ gs) f q w e = (
  λ k t. omega (arith, still_more w e, t.1),
  λ g k t.
      let n : ℕ = f.at.0 in
      let c : Comes s f.hook.0 n g k.hook.0 k.at.0 = subst (λ (i : List ℕ). Comes i f.hook.0 n g k.hook.0 k.at.0) q t.1 in
      let r : k.at.0 ≡ u64_at s (16 * n + 8) = c.reads ∙ ap (u64_at s) c.inner in
      let more : AlwaysYields ChainSteps link_of k (chain_links s k.hook.0 k.at.0 gs) =
      chain-yields gs k (ap (λ (x : Bor (List ℕ)). x.now) t.0 ∙ q) (seen_on w c.there (comes_sees c)) (still-on w c.there (comes_sees c) e) in (
        c.link ∙ (λ i. record { hook = f.hook.0; at = n; units = (size_at s n + 8) / 16; next = r i }),
        subst (λ (x : ℕ). AlwaysYields ChainSteps link_of k (chain_links s x (u64_at s (16 * n + 8)) gs)) c.inner
            (subst (λ (x : ℕ). AlwaysYields ChainSteps link_of k (chain_links s k.hook.0 x gs)) r more),
      ),
)

-- what is so of a free block of an image: it has a unit, and neither its ref nor its units are past the image's
pub record Bounded (l : Link) : Type 0 where
  pub some : 0 < l.units
  pub few : l.units < 134217729
  pub near : l.at < 134217729

chain-bounded : {s : List ℕ} (gs : List Free) (h n : ℕ) (w : Walk s h n) → still w ≡ gs → Each Bounded (chain_links s h n gs)
chain-bounded [] h n w e = tt
chain-bounded {s} (g ∷ gs) h n w e =
    let p = still_more w e in
    let m = walk_meets w p in
    let long = w.sound.volume.long in
    let small = w.sound.volume.extents.small in (
      record {
        some = omega (arith, seen_units w p (sees n), met_sound w m);
        few = omega (arith, seen_units w p (sees n), met_inside w m, long, small);
        near = omega (arith, met_inside w m, long, small);
      },
      chain-bounded gs (16 * n + 8) (u64_at s (16 * n + 8)) (seen_on w p (sees n)) (still-on w p (sees n) e),
    )

-- the chain of a sound image
pub record Whole (s : List ℕ) (f : FreeChain) : Type 0 where
  pub links : List Link
  pub yields : YieldsList ChainSteps link_of f links
  pub gaps-of : map gap_of links ≡ gaps 2 (volume_of s).extents
  pub stand : Each (λ l. Stands l (volume_of s).extents) links
  pub bounded : Each Bounded links

pub whole-chain : {s : List ℕ} {f : FreeChain} → Sound s → (f.image.now ≡ s) × (f.hook.0 ≡ 16) × OnChain s 16 f.at.0 → Whole s f
unfolding end_of
whole-chain {s} {f} k (q, h, o) =
    let w : Walk s f.hook.0 f.at.0 = record { sound = k; pre = []; rest = (volume_of s).extents; parts = refl; at-hook = hook_none ∙ sym h; reads = o.reads ∙ ap (u64_at s) (sym h) } in
    record {
      links = chain_links s f.hook.0 f.at.0 (still w);
      yields = record { runs = chain-yields (still w) f q w refl };
      gaps-of = links-gaps (still w) f.hook.0 f.at.0 w refl;
      stand = links-stand (still w) f.hook.0 f.at.0 w refl;
      bounded = chain-bounded (still w) f.hook.0 f.at.0 w refl;
    }

-- the tightest of them
pub found-tightest : {s : List ℕ} {f : FreeChain} (need : ℕ) (r : Maybe Gap) (k : Whole s f) → option_map link_of r ≡ smallest need k.links → Finds s need (fit_of r)
found-tightest need None k e = record {
  chosen = ap (tightest need) (sym k.gaps-of) ∙ smallest-tightest need k.links ∙ ap gap_found (sym e);
  stands = tt;
}
found-tightest {s} need (Some g) k e = record {
  chosen = ap (tightest need) (sym k.gaps-of) ∙ smallest-tightest need k.links ∙ ap gap_found (sym e);
  stands = subst (λ (o : Maybe Link). IfSome o (λ l. Stands l (volume_of s).extents)) (sym e) (smallest-keeps need (λ l. Stands l (volume_of s).extents) k.links k.stand);
}

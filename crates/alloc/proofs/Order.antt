-- Releasing two blocks: the order does not matter. Both are wiped, and then all free neighbours become one.
use Prim.Native.Nat.{ℕ, ◌+◌, ◌<◌}
use mathlib.Core.List.{List, [], ◌∷◌, ◌++◌, append_assoc}
use mathlib.Core.Path.{◌≡◌, refl, ap, sym, ◌∙◌, subst}
use mathlib.Core.Bool.{Bool, true, false}
use native.Mathlib.Omega.{arith}
use native.Mathlib.Nat.{add_assoc}
use lib.Dec.{eqb}
use borrow.Author.Tests.{eqb-true}
use Rattle.storage.specs.Bytes.{zeroed}
use Rattle.alloc.specs.Block.{Block, units}
use Rattle.alloc.specs.Volume.{Extent, allocated, free, Volume, volume_of, objects}
use Rattle.alloc.specs.Room.{wiped, coalesced, released, with_extents, after_release}
use Rattle.alloc.specs.Sound.{apart, Holds}
use Rattle.alloc.proofs.Data.{found}
use Rattle.alloc.proofs.Entries.{released-other}
use Rattle.alloc.proofs.Stages.{stage_image, stage_released, stage_start}

-- ---- all free neighbours as one

abbrev glue : Extent → List Extent → List Extent
glue (allocated a) es = allocated a ∷ es
glue (free u l) [] = free u l ∷ []
glue (free u l) (allocated a ∷ es) = free u l ∷ allocated a ∷ es
glue (free u l) (free v k ∷ es) = free (u + v) (l ++ (zeroed 16 ++ k)) ∷ es

unfoldable merged : List Extent → List Extent
merged [] = []
merged (e ∷ es) = glue e (merged es)

glue_twice : (u v : ℕ) (l k : List ℕ) (es : List Extent) → glue (free (u + v) (l ++ (zeroed 16 ++ k))) es ≡ glue (free u l) (glue (free v k) es)
glue_twice u v l k [] = refl
glue_twice u v l k (allocated a ∷ es) = refl
glue_twice u v l k (free w m ∷ es) = rw (add_assoc u v w) (ap (λ (x : List ℕ). free (u + (v + w)) x ∷ es) (simp append_assoc))

-- a row with no free neighbours stays as it is
merged_apart : (es : List Extent) → apart es ≡ true → merged es ≡ es
unfolding merged apart
merged_apart [] h = refl
merged_apart (allocated a ∷ es) h = ap (λ (x : List Extent). allocated a ∷ x) (merged_apart es h)
merged_apart (free u l ∷ []) h = refl
merged_apart (free u l ∷ allocated a ∷ es) h = ap (λ (x : List Extent). free u l ∷ allocated a ∷ x) (merged_apart es h)
merged_apart (free u l ∷ free v k ∷ es) h = let z : ◌≡◌ {A = ℕ} 0 1 = cc in absurd (omega arith)

-- what is joined first may be joined afterwards, and after a block is wiped
merged_coalesced : (es : List Extent) → merged (coalesced es) ≡ merged es
unfolding merged coalesced
merged_coalesced [] = refl
merged_coalesced (allocated a ∷ es) = ap (λ (x : List Extent). allocated a ∷ x) (merged_coalesced es)
merged_coalesced (free u l ∷ []) = refl
merged_coalesced (free u l ∷ allocated a ∷ es) = ap (λ (x : List Extent). free u l ∷ allocated a ∷ x) (merged_coalesced es)
merged_coalesced (free u l ∷ free v k ∷ es) = glue_twice u v l k (merged es)

wiped-coalesced : (t r : ℕ) (es : List Extent) → merged (wiped t r (coalesced es)) ≡ merged (wiped t r es)
unfolding merged coalesced wiped
wiped-coalesced t r [] = refl
wiped-coalesced t r (allocated a ∷ es) = go (eqb r t) refl (wiped-coalesced t (r + units a) es)
  where
    go : (q : Bool) → eqb r t ≡ q → merged (wiped t (r + units a) (coalesced es)) ≡ merged (wiped t (r + units a) es)
        → merged (wiped t r (allocated a ∷ coalesced es)) ≡ merged (wiped t r (allocated a ∷ es))
    go true q e = rw (q, wiped) (ap (glue (free (units a) _)) (merged_coalesced es))
    go false q e = rw (q, wiped) (ap (λ (x : List Extent). allocated a ∷ x) e)
wiped-coalesced t r (free u l ∷ []) = refl
wiped-coalesced t r (free u l ∷ allocated a ∷ es) = ap (glue (free u l)) (wiped-coalesced t (r + u) (allocated a ∷ es))
wiped-coalesced t r (free u l ∷ free v k ∷ es) = rw (← add_assoc r u v) (glue_twice u v l k (merged (wiped t (r + u + v) es)))

-- ---- two blocks wiped in either order

wiped_swap : (t u r : ℕ) (es : List Extent) → (t ≡ u → ⊥) → wiped t r (wiped u r es) ≡ wiped u r (wiped t r es)
unfolding wiped
wiped_swap t u r [] n = refl
wiped_swap t u r (free v l ∷ es) n = ap (λ (x : List Extent). free v l ∷ x) (wiped_swap t u (r + v) es n)
wiped_swap t u r (allocated a ∷ es) n = go (eqb r t) (eqb r u) refl refl (wiped_swap t u (r + units a) es n)
  where
    go : (p q : Bool) → eqb r t ≡ p → eqb r u ≡ q → wiped t (r + units a) (wiped u (r + units a) es) ≡ wiped u (r + units a) (wiped t (r + units a) es)
        → wiped t r (wiped u r (allocated a ∷ es)) ≡ wiped u r (wiped t r (allocated a ∷ es))
    go true true e f g = absurd (n (sym (eqb-true r t e) ∙ eqb-true r u f))
    go true false e f g = simp (e, f, wiped)
    go false true e f g = simp (e, f, wiped)
    go false false e f g = simp (e, f, wiped) (ap (λ (x : List Extent). allocated a ∷ x) g)

-- ---- two blocks released in either order

released-both : (t u : ℕ) (es : List Extent) → apart (released t (released u es)) ≡ true → released t (released u es) ≡ merged (wiped t 2 (wiped u 2 es))
unfolding released
released-both t u es h =
    sym (merged_apart (released t (released u es)) h)
    ∙ merged_coalesced (coalesced (wiped t 2 (released u es)))
    ∙ merged_coalesced (wiped t 2 (released u es))
    ∙ wiped-coalesced t 2 (coalesced (wiped u 2 es))
    ∙ wiped-coalesced t 2 (wiped u 2 es)

-- two different objects of an image
module _ {s : List ℕ} where
  after_both : {t u : ℕ} → (t ≡ u → ⊥) → Holds s t → Holds s u → after_release t (after_release u s) ≡ with_extents s (merged (wiped t 2 (wiped u 2 (volume_of s).extents)))
  unfolding objects
  after_both {t} {u} n k l =
      let es : List Extent = (volume_of s).extents in
      let p = subst (λ (b : Block). 0 < b.magic) (sym (released-other u _ es (found 2 u es l.there) t (λ e. n (sym e)))) k.there in
      let w = stage_released (stage_released (stage_start k.sound) u l.there refl) t p refl in
      stage_image w ∙ ap (with_extents s) (released-both t u es (ap (λ (v : Volume). apart v.extents) (sym w.volume-is) ∙ w.sound.volume.extents.neighbours))

  pub release_order : {t u : ℕ} → (t ≡ u → ⊥) → Holds s t → Holds s u → after_release t (after_release u s) ≡ after_release u (after_release t s)
  release_order {t} {u} n k l =
      after_both n k l
      ∙ ap (λ (es : List Extent). with_extents s (merged es)) (wiped_swap t u 2 (volume_of s).extents n)
      ∙ sym (after_both (λ e. n (sym e)) l k)

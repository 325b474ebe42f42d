-- Small laws of tests, and of an index counted from one slot before.
use Prim.Native.Nat.{suc, ℕ}
use mathlib.Core.Bool.{Bool, false, true, true≢false}
use mathlib.Core.List.{List}
use mathlib.Core.Option.{Option, none, some}
use mathlib.Core.Path.{◌∙◌, ◌≡◌, ap, refl, sym}
use native.Mathlib.Omega.{arith}
use Rattle.storage.specs.Bytes.{same}
use Rattle.storage.proofs.Compare.{same_eq, same_refl}
use Rattle.calls.specs.Walk.{onward}

-- it is none where it was none before
pub onward_none : (o : Option ℕ) → onward o ≡ none → o ≡ none
onward_none none e = refl
onward_none (some i) e = let z : ◌≡◌ {A = ℕ} 0 1 = cc in absurd (omega arith)

-- and one more than it was
pub onward_some : (o : Option ℕ) (i : ℕ) → onward o ≡ some i → (j : ℕ) × (o ≡ some j) × (i ≡ suc j)
onward_some none i e = let z : ◌≡◌ {A = ℕ} 0 1 = cc in absurd (omega arith)
onward_some (some j) i e = (j, refl, cc)

-- two lists that differ, either way round
pub same-other : (v w : List ℕ) → same v w ≡ false → same w v ≡ false
same-other v w h = go (same w v) refl
  where
    go : (q : Bool) → same w v ≡ q → q ≡ false
    go false e = refl
    go true e = absurd (true≢false (sym (same_refl v) ∙ ap (same v) (sym (same_eq w v e)) ∙ h))

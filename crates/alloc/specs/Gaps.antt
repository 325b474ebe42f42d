-- Gaps: the free blocks of a volume, and which of them a block is placed in.
use Rattle.std.specs.Prelude.{ℕ, ◌+◌, ◌<◌, ◌≤◌, List, [], ◌∷◌, ◌≡◌, ◌⊎◌, true, false, leb, ltb}
use Rattle.std.proofs.Math.Option.{Option, none, some}
use Rattle.alloc.specs.Block.{units}
use Rattle.alloc.specs.Volume.{Extent, allocated, free}

-- a free block: its ref and its units
pub record Gap : Type 0 where
  pub at : ℕ
  pub units : ℕ

-- the free blocks of a row of extents that begins at ref r, in storage order
unfoldable pub gaps : ℕ → List Extent → List Gap
gaps r [] = []
gaps r (allocated a ∷ es) = gaps (r + units a) es
gaps r (free u left ∷ es) = record { at = r; units = u } ∷ gaps (r + u) es

-- g is one of them
abbrev pub Among : Gap → List Gap → Type 0
Among g [] = ⊥
Among g (h ∷ gs) = (h ≡ g) ⊎ Among g gs

-- ---- a rule that chooses a free block for so many units: it sees refs and units, and nothing else

abbrev pub Choice : Type 0
Choice = ℕ → List Gap → Option Gap

-- any choice that is big enough: one of the gaps with room is taken, and none only where none has
pub record Chooses (choose : Choice) : Type 0 where
  pub takes : (need : ℕ) (gs : List Gap) (g : Gap) → choose need gs ≡ some g → Among g gs × (need ≤ g.units)
  pub refuses : (need : ℕ) (gs : List Gap) → choose need gs ≡ none → (g : Gap) → Among g gs → g.units < need

-- ---- document 02, #107: the smallest free block that is big enough, the lowest ref among equals

-- g, or the other where that has fewer units
abbrev pub tighter : Gap → Option Gap → Option Gap
tighter g none = some g
tighter g (some h) = elim (ltb h.units g.units) [ true ↦ some h | false ↦ some g ]

-- the tightest gap: the smallest with at least need units, and of equal ones the first
unfoldable pub tightest : Choice
tightest need [] = none
tightest need (g ∷ gs) = elim (leb need g.units) [ true ↦ tighter g (tightest need gs) | false ↦ tightest need gs ]

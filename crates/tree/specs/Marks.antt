-- Rule 4 by marks: each naming is counted in the mark of what it names. Nothing that a reader must believe rests on these.
use Rattle.std.specs.Prelude.{ℕ, ◌+◌, ◌*◌, ◌/◌, ◌%◌, ◌<◌, List, [], ◌∷◌, map, ◌≡◌, Bool, true, ◌&&◌, ◌||◌, cond, not, eqb, ltb, length, get_or, set, drop}
use Rattle.std.proofs.Math.Option.{Option, none}
use Rattle.storage.specs.Bytes.{splice}
use Rattle.alloc.specs.Block.{Block}
use Rattle.alloc.specs.Volume.{Objects, volume_of, objects, block_at}
use Rattle.alloc.specs.Marks.{Marked}
use Rattle.tree.specs.Fields.{is_dir, parent, Slot, slots, taken}
use Rattle.tree.specs.Rules.{named_once}
use Rattle.tree.specs.Verdict.{Verdict, rule3, breaker_of, verdict, marks_after}

-- a mark after one naming more: 8 above the kind where one slot names the object, and rightly; 16 where more do, or one wrongly
unfoldable pub named_mark : Bool → ℕ → ℕ
named_mark right x = cond (right && ltb x 8) (x + 8) (x % 8 + 16)

abbrev pub counted : List ℕ → ℕ → Bool → List ℕ
counted m t right = set m t (named_mark right (get_or m t 0))

-- whether a slot of the directory at ref d may name the object at ref t: a directory only where d is its parent
unfoldable pub rightly : Objects → ℕ → ℕ → Bool
rightly os d t = not (is_dir (block_at os t)) || eqb (parent (block_at os t)) d

-- both refs of a taken slot are counted
unfoldable pub noted_slot : Objects → ℕ → Slot → List ℕ → List ℕ
noted_slot os d s m = cond (taken s) (counted (counted m s.0 true) s.1 (rightly os d s.1)) m

unfoldable pub noted_slots : Objects → ℕ → List Slot → List ℕ → List ℕ
noted_slots os d [] m = m
noted_slots os d (s ∷ ss) m = noted_slots os d ss (noted_slot os d s m)

-- what each object in turn makes of the marks
unfoldable pub folded : (ℕ → Block → List ℕ → List ℕ) → Objects → List ℕ → List ℕ
folded f [] m = m
folded f (o ∷ os) m = folded f os (f o.0 o.1 m)

abbrev pub noted_block : Objects → ℕ → Block → List ℕ → List ℕ
noted_block os r b m = noted_slots os r (slots b) m

-- the marks with every naming counted
unfoldable pub noted : Objects → List ℕ → List ℕ
noted os m = folded (noted_block os) os m

-- rule 4 of each object is to be read off its mark
pub record Noted (s m : List ℕ) : Type 0 where
  pub rule_4 : (root r : ℕ) → 0 < (block_at (objects (volume_of s)) r).magic
      → eqb (get_or m r 0 / 8) (cond (eqb r root) 0 1) ≡ named_once (objects (volume_of s)) root r (block_at (objects (volume_of s)) r)

-- a tiled image with its marks, nothing counted yet
pub record Fresh (s m : List ℕ) : Type 0 where
  pub marked : Marked s m
  pub uncounted : (t : ℕ) → 16 * t < length s → get_or m t 0 < 8

-- rule 3 holds besides
pub record Countable (s m : List ℕ) (root : ℕ) : Type 0 where
  pub fresh : Fresh s m
  pub rule_3 : breaker_of rule3 (objects (volume_of s)) root ≡ none

-- m came to be m': kinds stand as they did, and marks past the image's units
pub record Annotated (s m m' : List ℕ) : Type 0 where
  pub marked : Marked s m'
  pub beyond : drop (length s / 16) m' ≡ drop (length s / 16) m

-- the walk over the slots: rule 3's breaker, and where there is none every naming is counted
pub record Slotted (s : List ℕ) (o : Option ℕ) (m m' : List ℕ) : Type 0 where
  pub breaker : o ≡ breaker_of rule3 (objects (volume_of s)) 0
  pub counted_all : o ≡ none → m' ≡ noted (objects (volume_of s)) m
  pub annotated : Annotated s m m'

-- the verdict, and the marks then
pub record Judges (s m : List ℕ) (v : Verdict) (m' : List ℕ) : Type 0 where
  pub verdict-is : v ≡ verdict s
  pub marks_are : m' ≡ splice m 0 (marks_after s)

-- the kinds that marks tell
abbrev pub trimmed : List ℕ → List ℕ
trimmed m = map (λ x. x % 8) m

-- the verdict, with marks that hold the image's kinds where rule 1 holds
pub record Decides (s m : List ℕ) (v : Verdict) (m' : List ℕ) : Type 0 where
  pub verdict-is : v ≡ verdict s
  pub kinds_are : v.rule ≡ 0 → Marked s m'
  pub beyond : drop (length s / 16) m' ≡ drop (length s / 16) m

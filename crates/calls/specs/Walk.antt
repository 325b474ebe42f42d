-- The walk along a path, from the root, left to right.
use Rattle.std.specs.Prelude.{ℕ, suc, ◌-◌, List, [], ◌∷◌, Bool, true, false, ◌&&◌, cond, not, length, get_or}
use Rattle.std.proofs.Math.Option.{Option, none, some}
use Rattle.storage.specs.Bytes.{same}
use Rattle.alloc.specs.Block.{Block}
use Rattle.alloc.specs.Volume.{Objects, volume_of, objects, block_at}
use Rattle.path.specs.Path.{valid_path, components, all_but_last}
use Rattle.tree.specs.Fields.{is_dir, is_file, Slot, slot_at, slots, taken}
use Rattle.tree.specs.Verdict.{well_formed}
use Rattle.calls.specs.declared.refusal.Reason.{Reason}
use Rattle.calls.specs.declared.refusal.Reason.TheVariants.{BadPath, NotFound, NotDirectory, IsDirectory, OutOfBounds}
use Rattle.calls.specs.Refusal.{Accepted, For, Refusal, accepted, check}

-- the lowest slot of a row that passes a test, by its number
abbrev pub onward : Option ℕ → Option ℕ
onward none = none
onward (some i) = some (suc i)

unfoldable pub first_slot : (Slot → Bool) → List Slot → Option ℕ
first_slot p [] = none
first_slot p (s ∷ ss) = elim (p s) [ true ↦ some 0 | false ↦ onward (first_slot p ss) ]

-- the slot of a directory that is taken, with this name
abbrev pub slot_named : Objects → Block → List ℕ → Option ℕ
slot_named os d w = first_slot (λ s. taken s && same (block_at os s.0).body w) (slots d)

-- the lowest empty slot of a directory
abbrev pub empty_slot : Block → Option ℕ
empty_slot d = first_slot (λ s. not (taken s)) (slots d)

-- where a walk comes to: a component is not there, a file stands in the way, or a ref
pub data Walk : Type 0 where
  missing : Walk
  blocked : Walk
  at : ℕ → Walk

-- the object of a slot of the directory d
abbrev pub child : Block → Option ℕ → Walk
child d none = missing
child d (some i) = at (slot_at d i).1

-- one step, from what stands at ref r to the object with this name
unfoldable pub step : Objects → ℕ → List ℕ → Walk
step os r w =
    elim (is_dir (block_at os r)) [ false ↦ blocked | true ↦ child (block_at os r) (slot_named os (block_at os r) w) ]

unfoldable pub walk : Objects → ℕ → List (List ℕ) → Walk
walk os r [] = at r
walk os r (w ∷ ws) = elim (step os r w) [ missing ↦ missing | blocked ↦ blocked | at q ↦ walk os q ws ]

-- how every call on a path begins: refused, or the ref that the path names
pub data Start : Type 0 where
  refused : Refusal → Start
  reached : ℕ → Start

-- what is looked for first: the image's own refusal, then the path's, then that of numbers that are not allowed
unfoldable pub opening : List ℕ → List ℕ → Bool → Refusal
opening s path allowed = cond (well_formed s) (cond (valid_path path) (cond allowed Accepted (For OutOfBounds)) (For BadPath)) (check s)

-- then what follows
abbrev pub or_refused : Refusal → Start → Start
or_refused r x = cond (accepted r) x (refused r)

abbrev pub walked : Walk → Start
walked missing = refused (For NotFound)
walked blocked = refused (For NotDirectory)
walked (at r) = reached r

-- from the root along components
abbrev pub walk_from : List ℕ → List (List ℕ) → Start
walk_from s ws = walked (walk (objects (volume_of s)) (volume_of s).root ws)

-- a call on what the path names: then the walk's refusals
unfoldable pub start : List ℕ → List ℕ → Bool → Start
start s path allowed = or_refused (opening s path allowed) (walk_from s (components path))

-- a call on a slot of the directory that holds the last component: top for the root, then the walk along the components before it, where a file
-- that should hold it stands in the way too
abbrev pub as_directory : List ℕ → Start → Start
as_directory s (refused n) = refused n
as_directory s (reached d) = cond (is_dir (block_at (objects (volume_of s)) d)) (reached d) (refused (For NotDirectory))

abbrev pub above_last : List ℕ → Reason → List (List ℕ) → Start
above_last s top [] = refused (For top)
above_last s top (w ∷ ws) = as_directory s (walk_from s (all_but_last (w ∷ ws)))

unfoldable pub start_above : List ℕ → List ℕ → Bool → Reason → Start
start_above s path allowed top = or_refused (opening s path allowed) (above_last s top (components path))

-- a call on a file: a directory is refused
abbrev pub as_file : List ℕ → Start → Start
as_file s (refused r) = refused r
as_file s (reached r) = cond (is_file (block_at (objects (volume_of s)) r)) (reached r) (refused (For IsDirectory))

-- the last component
unfoldable pub last_name : List ℕ → List ℕ
last_name path = get_or (components path) (length (components path) - 1) []

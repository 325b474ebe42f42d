-- The lines of an object and of what it holds, by its node: its ref, its parent's, its name's, and its depth.
use Rattle.std.specs.Prelude.{◌+◌, ◌-◌, ℕ, List, ◌≡◌, true, Option}
use Rattle.alloc.specs.Volume.{objects, volume_of}
use Rattle.calls.specs.Reading.{block_in}
use Rattle.tree.specs.Fields.{Slot, slot_at, taken}
use Rattle.listing.specs.declared.lines.Node.{Node}
use Rattle.listing.specs.Cursors.{object_from}
use Rattle.listing.specs.Held.{held_lines}
use Rattle.history.specs.Listing.{Line, line_of, lines_of, object_lines}

-- slot i of the object
abbrev pub slot_in : List ℕ → Node → ℕ → Slot
slot_in s x i = slot_at (block_in s x.at.0) i

-- the node of the object that a slot names
abbrev pub child_of : Node → Slot → Node
child_of x c = record { at = record { 0 = c.1 }; parent = x.at; name = record { 0 = c.0 }; depth = x.depth + 1 }

-- slot i of the object is taken, and y is the node of what it names, in the same image
pub record ChildOf (s : List ℕ) (x : Node) (i : ℕ) (t : List ℕ) (y : Node) : Type 0 where
  pub same_image : t ≡ s
  pub is-taken : taken (slot_in s x i) ≡ true
  pub node-is : y ≡ child_of x (slot_in s x i)

-- how many levels are below a depth
abbrev pub levels : ℕ → ℕ
levels d = 16 - d

-- the own line of the object
abbrev pub own_line : List ℕ → Node → Line
own_line s x = line_of x.at.0 x.parent.0 x.name.0 x.depth (block_in s x.at.0)

-- with what it holds
abbrev pub lines_at : List ℕ → Node → List Line
lines_at s x = object_lines (levels x.depth) (objects (volume_of s)) x.at.0 x.parent.0 x.name.0 x.depth

-- what it holds, from slot j on
abbrev pub lines_in : List ℕ → Node → ℕ → List Line
lines_in s x j = held_lines (levels x.depth) (objects (volume_of s)) x.at.0 x.depth j

-- those of the object from a cursor on
abbrev pub lines_at_from : List ℕ → Node → List (Option ℕ) → List Line
lines_at_from s x c = object_from (levels x.depth) (objects (volume_of s)) x.at.0 x.parent.0 x.name.0 x.depth c

-- the root's node
abbrev pub root_node : List ℕ → Node
root_node s = record { at = record { 0 = (volume_of s).root }; parent = record { 0 = (volume_of s).root }; name = record { 0 = 0 }; depth = 0 }

-- the lines of the image from a cursor on
unfoldable pub lines_from : List ℕ → List (Option ℕ) → List Line
lines_from s c = object_from 16 (objects (volume_of s)) (volume_of s).root (volume_of s).root 0 0 c

-- x is the root's node, in the same image: its lines are those of the image
pub record IsRoot (s t : List ℕ) (x : Node) : Type 0 where
  pub same_image : t ≡ s
  pub node-is : x ≡ root_node s
  pub top : x.depth ≡ 0
  pub all_lines : lines_at t x ≡ lines_of s

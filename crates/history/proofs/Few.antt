-- A listing has no more lines than the image has units.
use Prim.Native.Nat.{◌*◌, ◌+◌, ◌≤◌, suc, ℕ}
use mathlib.Core.List.{List, [], ◌∷◌}
use mathlib.Core.Path.{ap}
use native.Mathlib.Omega.{arith}
use lib.ListN.{length, length-append}
use Rattle.alloc.specs.Sound.{end_of}
use Rattle.alloc.specs.Block.{units}
use Rattle.alloc.specs.Volume.{free, Extent, allocated, objects, objects_from, volume_of}
use Rattle.history.specs.Listing.{lines_of}
use Rattle.history.specs.Book.{Tree}
use Rattle.history.proofs.Good.{Good}
use Rattle.history.proofs.Lines.{root-lines, row_lines}
use Rattle.history.proofs.Nodes.{Node, dir, empty, end, file, sum_of}
use Rattle.history.proofs.Sums.{Item, sum}

abbrev one : Item → ℕ
one e = 1

row-few : (up d : ℕ) (c : Node) → length (row_lines up d c) ≤ sum_of one c
row-few up d end = omega arith
row-few up d (empty t) = row-few up d t
row-few up d (file n r a b t) = omega (arith, row-few up d t)
row-few up d (dir n r a b c t) = omega (arith, length-append (row_lines r (suc d) c) (row_lines up d t), row-few r (suc d) c, row-few up d t)

objects-few : (r : ℕ) (es : List Extent) → r + sum one (objects_from r es) ≤ end_of r es
unfolding objects_from end_of
objects-few r [] = omega arith
objects-few r (allocated b ∷ es) = omega (arith, objects-few (r + units b) es)
objects-few r (free u left ∷ es) = omega (arith, objects-few (r + u) es)

pub lines-within : (n : ℕ) (s : List ℕ) (t : Tree) → Good n s t → 16 * length (lines_of s) ≤ length s
unfolding lines_of objects
lines-within n s t g =
    let lines = root-lines (objects (volume_of s)) (volume_of s).root g.block g.node g.rep in
    omega (arith, ap length lines, row-few (volume_of s).root 1 g.node, g.rep.alike one, objects-few 2 (volume_of s).extents, g.sound.volume.long)

-- An image that holds the book t: it is sound, of n bytes, and its objects are those of a tree that the book describes.
use Prim.Native.Nat.{ℕ}
use mathlib.Core.List.{List}
use mathlib.Core.Path.{◌≡◌}
use lib.ListN.{length}
use Rattle.alloc.specs.Block.{Block}
use Rattle.alloc.specs.Sound.{Sound}
use Rattle.alloc.specs.Volume.{volume_of, objects}
use Rattle.history.specs.Book.{Tree}
use Rattle.history.proofs.Nodes.{Node, book_of, Rep}

pub record Good (n : ℕ) (s : List ℕ) (t : Tree) : Type 0 where
  pub sound : Sound s
  pub long : length s ≡ n
  pub block : Block
  pub node : Node
  pub rep : Rep (objects (volume_of s)) (volume_of s).root block node
  pub book : book_of node ≡ t

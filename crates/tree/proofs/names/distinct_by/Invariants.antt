-- distinct_by: the pairs passed have other names, those passed over are in other chains.
use Prim.Native.Nat.{◌-◌}
use Rattle.tree.proofs.Printing.{Comparing}
use Rattle.tree.proofs.Rows.{Apart}
use Rattle.tree.specs.Directory.{block_in, objects_in}
use Rattle.tree.specs.Fields.{total}
use Rattle.tree.proofs.names.distinct_by.Given as goal

abbrev pub invariant-loop-i : goal.invariant-loop-i
invariant-loop-i g l = Apart (objects_in l.prints.directory) (block_in l.prints.directory) l.i

abbrev pub invariant-loop-j : goal.invariant-loop-j
invariant-loop-j g l = Comparing (goal.F-post g l.next) l.prints.directory.image.now l.prints.directory.at.0 l.prints.row.now (total (block_in l.prints.directory)) l.i l.j

abbrev pub decreases-loop-j : goal.decreases-loop-j
decreases-loop-j g l = l.n - l.j

-- none_broken: no object passed breaks one of the rules, and the free chain holds so far.
use Prim.Native.Nat.{◌*◌}
use Rattle.alloc.proofs.Links.{Links}
use Rattle.alloc.proofs.Walking.{OnBlocks}
use Rattle.tree.proofs.Whole.{WalksAll}
use Rattle.tree.proofs.verdict.Counted.none_broken.Given as goal

abbrev pub invariant-loop-block : goal.invariant-loop-block
invariant-loop-block l = record {
  walk : OnBlocks l.self.marks.image.now l.block-iterator;
  objects : WalksAll l.self.marks.image.now l.self.root.0 l.block-iterator.next.0 (16 * l.block-iterator.next.0);
  links : Links l.self.marks.image.now l.scan.behind l.scan.next.0 l.block-iterator.next.0 (16 * l.block-iterator.next.0);
}

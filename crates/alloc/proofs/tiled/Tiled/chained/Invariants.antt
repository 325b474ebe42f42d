-- chained: the scan, one block a turn.
use Prim.Native.Nat.{◌*◌}
use Rattle.alloc.proofs.Links.{Links}
use Rattle.alloc.proofs.Walking.{OnBlocks}
use Rattle.alloc.proofs.tiled.Tiled.chained.Given as goal

abbrev pub invariant-loop-block : goal.invariant-loop-block
invariant-loop-block l = record {
  walk : OnBlocks l.self.image.now l.block-iterator;
  links : Links l.self.image.now l.scan.behind l.scan.next.0 l.block-iterator.next.0 (16 * l.block-iterator.next.0);
}

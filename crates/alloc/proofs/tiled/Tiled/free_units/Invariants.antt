-- free_units: what was counted so far, and what is left.
use Prim.Native.Nat.{◌*◌}
use Rattle.alloc.proofs.Lookups.{Counts}
use Rattle.alloc.proofs.Walking.{OnBlocks}
use Rattle.alloc.proofs.tiled.Tiled.free_units.Given as goal

abbrev pub invariant-loop-block : goal.invariant-loop-block
invariant-loop-block l = record {
  walk : OnBlocks l.self.image.now l.block-iterator;
  counts : Counts l.self.image.now l.total l.block-iterator.next.0 (16 * l.block-iterator.next.0);
}

-- first_breaker: no object passed fails a test that the closure computes, so the rest decides.
use Prim.Native.Nat.{◌*◌}
use Rattle.alloc.proofs.Walking.{OnBlocks}
use Rattle.tree.proofs.Visits.{Walks}
use Rattle.tree.proofs.verdict.first_breaker.Given as goal

abbrev pub invariant-loop-block : goal.invariant-loop-block
invariant-loop-block g l = record {
  walk : OnBlocks l.tiled.image.now l.block-iterator;
  visits : Walks (goal.F-post g l.keeps) l.tiled.image.now l.block-iterator.next.0 (16 * l.block-iterator.next.0);
}

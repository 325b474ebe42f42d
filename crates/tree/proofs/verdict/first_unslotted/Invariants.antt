-- first_unslotted: block after block, rule 3 and then the counting.
use Prim.Native.Nat.{◌*◌}
use Rattle.alloc.proofs.Walking.{OnBlocks}
use Rattle.tree.proofs.Joint.{SlotsSo}
use Rattle.tree.proofs.verdict.first_unslotted.Given as goal

abbrev pub invariant-loop-block : goal.invariant-loop-block
invariant-loop-block l = record {
  walk : OnBlocks l.image l.block-iterator;
  slots : SlotsSo l.image l.initial.marks l.marks l.block-iterator.next.0 (16 * l.block-iterator.next.0);
}

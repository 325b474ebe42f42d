-- chain_slots: from the last slot to the first.
use Rattle.std.proofs.Common.{length, ◌-◌}
use Rattle.tree.specs.Prints.{chain}
use Rattle.tree.proofs.Linking.{Linking}
use Rattle.tree.proofs.prints.chain_slots.Given as goal

abbrev pub invariant-loop-i : goal.invariant-loop-i
invariant-loop-i l = Linking (chain (length l.initial.heads - 1)) l.prints l.n l.initial.heads l.initial.links l.heads l.links l.i

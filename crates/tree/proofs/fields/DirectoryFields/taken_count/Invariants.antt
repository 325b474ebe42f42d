-- taken_count: slot after slot.
use Rattle.alloc.specs.Block.{block_of}
use Rattle.tree.proofs.Rows.{Counting}
use Rattle.tree.specs.Fields.{taken}
use Rattle.tree.proofs.fields.DirectoryFields.taken_count.Given as goal

abbrev pub invariant-loop-i : goal.invariant-loop-i
invariant-loop-i l = Counting taken (block_of l.self.image.now l.self.at.0) l.count l.i

-- keeps: the slots passed stand, so the rest decides.
use Rattle.alloc.specs.Block.{block_of}
use Rattle.alloc.specs.Volume.{volume_of, objects}
use Rattle.tree.proofs.Rows.{Standing-so_far}
use Rattle.tree.proofs.slots.keeps.Given as goal

abbrev pub invariant-loop-i : goal.invariant-loop-i
invariant-loop-i l = Standing-so_far (objects (volume_of l.marks.image.now)) (block_of l.directory.image.now l.directory.at.0) l.i

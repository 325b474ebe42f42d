-- gaps: the chain begins in the superblock.
use Rattle.alloc.proofs.Soundness.{sound-tiled}
use Rattle.alloc.proofs.fit.Sound.gaps.Goals as goal

pub invariant_of-tiled : goal.invariant_of-tiled
invariant_of-tiled c = record { tiled = sound-tiled c.args.self.sound }

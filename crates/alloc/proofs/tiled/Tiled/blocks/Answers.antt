-- blocks: a walk begins at ref 2.
use Rattle.alloc.proofs.Walking.{reached_start}
use mathlib.Core.Path.{refl}
use Rattle.alloc.proofs.tiled.Tiled.blocks.Goals as goal

pub returns : goal.returns
returns c = (refl, refl, reached_start c.args.self.tiled)

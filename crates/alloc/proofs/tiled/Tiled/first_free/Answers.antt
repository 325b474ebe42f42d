-- first_free: the second number of the superblock.
use Rattle.alloc.proofs.Cuts.{tiled-long}
use native.Mathlib.Omega.{arith}
use Rattle.alloc.proofs.tiled.Tiled.first_free.Goals as goal

pub read_ref-requires : goal.read_ref-requires
read_ref-requires c = omega (arith, c.data_start.ensures, tiled-long c.args.self.tiled)

-- copy_out: a part of the block's data.
use Rattle.alloc.proofs.Held.{part_read}
use mathlib.Core.Path.{◌∙◌}
use Rattle.alloc.proofs.access.Block.copy_out.Goals as goal

pub returns : goal.returns
returns c = c.copy_out.ensures ∙ part_read c.args.self.standing _ _ c.requires c.data_start.ensures

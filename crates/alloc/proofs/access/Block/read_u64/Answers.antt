-- read_u64: a number of the block's data.
use Rattle.alloc.proofs.Held.{number_read}
use Rattle.alloc.proofs.access.Block.read_u64.Goals as goal

pub returns : goal.returns
returns c = number_read c.args.self.standing _ c.requires c.data_start.ensures c.read_u64.ensures

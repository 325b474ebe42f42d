-- next_free: a free block has a ref.
use Rattle.alloc.proofs.Links.{free-least}
use Rattle.alloc.proofs.access.Block.next_free.Goals as goal

pub read_ref-requires : goal.read_ref-requires
read_ref-requires c = free-least c.args.self.standing c.requires

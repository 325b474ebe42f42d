-- copy_in: a store into the object.
use Rattle.alloc.proofs.Held.{update_done}
use Rattle.alloc.proofs.access.copy_in.Goals as goal

pub returns : goal.returns
returns c = update_done c.requires.0 _ _ c.requires.1 c.data_start.ensures c.copy_in.ensures

use Rattle.storage.specs.Bytes.{u32_at}
use Rattle.storage.proofs.read_u32.Goals as goal

pub returns : goal.returns
unfolding u32_at
returns c = c.from_be_bytes.ensures

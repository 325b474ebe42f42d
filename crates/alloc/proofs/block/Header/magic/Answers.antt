-- magic: the number at the block's first byte.
use Rattle.alloc.specs.Block.{magic_at}
use Rattle.storage.specs.Bytes.{u32_at}
use mathlib.Core.Path.{ap, ◌∙◌}
use Rattle.alloc.proofs.block.Header.magic.Goals as goal

pub returns : goal.returns
unfolding magic_at
returns c = c.read_u32.ensures ∙ ap (u32_at _) c.start.ensures

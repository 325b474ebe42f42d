-- size: the number at the block's fifth byte.
use Prim.Native.Nat.{ℕ, ◌+◌}
use Rattle.alloc.specs.Block.{size_at}
use Rattle.storage.specs.Bytes.{u32_at}
use mathlib.Core.Path.{ap, ◌∙◌}
use Rattle.alloc.proofs.block.Header.size.Goals as goal

pub returns : goal.returns
unfolding size_at
returns c = c.read_u32.ensures ∙ ap (u32_at _) (c.plus.ensures ∙ ap (λ (n : ℕ). n + 4) c.start.ensures)

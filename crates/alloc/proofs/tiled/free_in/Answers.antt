-- free_in: an allocated block counts nothing.
use Rattle.alloc.specs.Block.{units_for, size_at}
use mathlib.Core.Bool.{Bool, cond}
use mathlib.Core.Path.{ap, sym, ◌∙◌}
use Rattle.alloc.proofs.tiled.free_in.Goals as goal

pub returns : goal.returns
returns c = sym (ap (λ (b : Bool). cond b (units_for (size_at c.args.block.image.now c.args.block.at.0)) 0) (sym c.is.ensures ∙ c.if-is.false))

-- copy_in: one byte more is stored.
use Rattle.std.proofs.Common.{arith, refl}
use Rattle.storage.proofs.Runs.{stored-start, stored_on, stored-end}
use Rattle.storage.proofs.copy_in.Goals as goal

pub loop-i-init : goal.loop-i-init
loop-i-init c = stored-start _ _ _ c.requires

pub loop-i-preserved : goal.loop-i-preserved
loop-i-preserved c = stored_on c.loop-i.invariant _ _ (omega arith) refl refl

pub returns : goal.returns
returns c = stored-end c.loop-i.invariant (omega arith)

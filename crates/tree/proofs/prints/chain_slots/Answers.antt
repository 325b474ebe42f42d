use Rattle.tree.proofs.Linking.{linking_on}
use mathlib.Core.Path.{refl}
use native.Mathlib.Omega.{arith}
use Rattle.tree.proofs.prints.chain_slots.Goals as goal

pub loop-i-preserved : goal.loop-i-preserved
loop-i-preserved c =
    linking_on c.requires refl c.loop-i.invariant (omega (arith, c.loop-i-test.true)) c.chain_of-h.ensures.0
    (omega (arith, c.chain_of-h.ensures.1, c.loop-i.auto.heads, c.requires.heads)) (omega arith)

-- next: the block at the ref, and the walk past it.
use Prim.Native.Nat.{◌+◌}
use Rattle.alloc.specs.Block.{units_for}
use Rattle.alloc.proofs.Walking.{reached_standing, reached_on}
use mathlib.Core.Path.{refl, ap, ◌∙◌}
use native.Mathlib.Omega.{arith}
use Rattle.alloc.proofs.tiled.BlocksIterator.next.Goals as goal

pub returns-then-self-start-clause-steps : goal.returns-then-self-start-clause-steps
returns-then-self-start-clause-steps c = (refl, omega (arith, c.start.ensures))

pub invariant_of-block : goal.invariant_of-block
invariant_of-block c = record { standing = reached_standing c.requires (omega (arith, c.start.ensures, c.if-self-start.false)) }

pub returns-clause-goes : goal.returns-clause-goes
returns-clause-goes c =
    let e = c.past-self.ensures ∙ ap (◌+◌ _) (c.units_for.ensures ∙ ap units_for c.size.ensures) in
    let w = reached_on c.requires (omega (arith, c.start.ensures)) _ e in
    record { on = λ _. (w, tt, omega (arith, w.inside, e)); keeps = w; rests = λ _. tt }

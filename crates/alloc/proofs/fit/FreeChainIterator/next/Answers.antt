-- next: the free block at the ref, and the chain past it.
use Rattle.alloc.proofs.FreeWalks.{chain_walk, chain_on}
use Rattle.alloc.proofs.Fits.{seen_inside}
use native.Mathlib.Omega.{arith}
use Rattle.alloc.proofs.fit.FreeChainIterator.next.Goals as goal

pub invariant_of-free_units : goal.invariant_of-free_units
invariant_of-free_units c =
    record { inside = omega (arith, seen_inside (chain_walk c.requires) (omega arith)) }

pub returns-clause-goes : goal.returns-clause-goes
returns-clause-goes c =
    let k = chain_on c.requires (omega arith) (record { room = c.free_units-units.ensures.is; inner = c.data_start-inner.ensures; reads = c.read_ref-next.ensures }) in
    record { on = λ _. (k.0, tt, omega (arith, k.1, k.2)); keeps = k.0; rests = λ _. tt }

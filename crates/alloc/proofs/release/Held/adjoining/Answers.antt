-- adjoining: by what is known of the gap.
use Rattle.alloc.proofs.Plans.{inside}
use native.Mathlib.Omega.{arith}
use Rattle.alloc.proofs.release.Held.adjoining.Goals as goal

pub past-requires : goal.past-requires
past-requires c =
    let k = rw c.in-Some.is at c.requires in
    omega (arith, k.0.1.small, k.1, inside c.args.self.held)

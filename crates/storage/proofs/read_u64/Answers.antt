-- read_u64: two halves, the high one shifted to its place.
use Rattle.storage.proofs.Shifts.{or_64}
use Rattle.storage.specs.Bytes.{u64_at}
use native.Mathlib.Omega.{arith}
use Rattle.storage.proofs.read_u64.Goals as goal

pub returns : goal.returns
unfolding u64_at
returns c =
    let high = c.from-high in
    let low = c.from-low in
    omega (arith, or_64 high.result low.result (omega arith) (omega arith))

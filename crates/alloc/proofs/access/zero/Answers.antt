-- zero: a store into the object.
use Prim.Native.Nat.{ℕ}
use Rattle.alloc.proofs.Held.{update_done}
use Rattle.storage.specs.Bytes.{zeroed}
use lib.ListN.{length-replicate}
use native.Mathlib.Omega.{arith}
use Rattle.alloc.proofs.access.zero.Goals as goal

pub returns : goal.returns
returns c = update_done c.requires.0 _ (zeroed c.args.n) (omega (arith, c.requires.1, length-replicate {A = ℕ} c.args.n 0)) c.data_start.ensures c.zero.ensures

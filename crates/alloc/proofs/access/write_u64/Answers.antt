-- write_u64: a store into the object.
use Rattle.alloc.proofs.Held.{update_done}
use Rattle.storage.proofs.Numbers.{length-be64}
use Rattle.storage.specs.Bytes.{be64}
use native.Mathlib.Omega.{arith}
use Rattle.alloc.proofs.access.write_u64.Goals as goal

pub returns : goal.returns
returns c = update_done c.requires.0 _ (be64 c.args.n) (omega (arith, c.requires.1, length-be64 c.args.n)) c.data_start.ensures c.write_u64.ensures

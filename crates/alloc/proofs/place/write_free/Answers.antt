-- write_free: magic, size and next ref are the header.
use Prim.Native.Nat.{ℕ, ◌*◌, ◌-◌}
use Rattle.alloc.proofs.Stores.{headed, length-header}
use Rattle.alloc.specs.Block.{SFfr}
use Rattle.alloc.specs.Steps.{header}
use Rattle.storage.specs.Bytes.{be32, be64}
use mathlib.Core.List.{◌++◌}
use mathlib.Core.Path.{ap}
use native.Mathlib.Omega.{arith}
use Rattle.alloc.proofs.place.write_free.Goals as goal

pub returns : goal.returns
returns c =
    let a = c.args in
    headed a.image.now (16 * a.r.0) SFfr _ (be64 a.next.0) (header a.units a.next.0)
    (omega (
      arith,
      c.requires,
      length-header a.units
          a.next.0,
    )) (ap (λ (n : ℕ). be32 SFfr ++ (be32 (n - 8) ++ be64 a.next.0)) c.bytes_of.ensures)
    c.start-at.ensures
    c.plus.ensures c.plus-2.ensures
    (rw c.magic.ensures at c.write_u32.ensures)
    c.write_u32-2.ensures c.write_ref.ensures

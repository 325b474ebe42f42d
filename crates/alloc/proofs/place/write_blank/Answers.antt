-- write_blank: magic, size and zeros are the block's bytes.
use Prim.Native.Nat.{ℕ}
use Prim.Native.Nat.{◌*◌, ◌-◌}
use Rattle.alloc.proofs.Stores.{headed, blank-bytes, length-blank}
use Rattle.alloc.specs.Answers.{kind_magic}
use Rattle.alloc.specs.Block.{bytes}
use Rattle.alloc.specs.Room.{blank}
use Rattle.storage.specs.Bytes.{be32}
use Rattle.storage.specs.Bytes.{zeroed}
use mathlib.Core.List.{◌++◌}
use mathlib.Core.Path.{ap, ◌∙◌}
use native.Mathlib.Omega.{arith}
use Rattle.alloc.proofs.place.write_blank.Goals as goal

pub returns : goal.returns
returns c =
    let a = c.args in
    let m : ℕ = kind_magic a.kind in
    headed a.image.now (16 * a.r.0) m a.size _ (bytes (blank m a.size))
    (omega (
      arith,
      c.requires,
      length-blank
          m a.size,
    ))
    (ap (λ (n : ℕ). be32 m ++ (be32 a.size ++ zeroed (n - 8)))
    (c.bytes_of.ensures ∙ ap (λ (u : ℕ). 16 * u) c.units_for.ensures) ∙ blank-bytes m a.size)
    c.start-at.ensures
    c.plus.ensures c.plus-2.ensures
    (rw c.magic.ensures at c.write_u32.ensures)
    c.write_u32-2.ensures c.zero.ensures

-- point_at: its bytes lie within the file size.
use native.Mathlib.Omega.{arith}
use Rattle.calls.proofs.reading.point_at.Goals as goal

pub copy_out-requires : goal.copy_out-requires
copy_out-requires c = omega (arith, c.requires, c.size.ensures, c.if-size-n.false)

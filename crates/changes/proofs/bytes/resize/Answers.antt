-- resize: zeros between the ends, the size.
use Rattle.std.proofs.Common.{rules}
use Rattle.changes.proofs.Storing.{cut_inside, cut_open, open_file, resized-done, store_at}
use native.Mathlib.Omega.{arith}
use Rattle.changes.proofs.bytes.resize.Goals as goal

pub zero-requires : goal.zero-requires
zero-requires c =
    store_at (open_file (search rules) c.requires.0) _ _
    (cut_inside (search rules) c.requires.0 c.size-old.ensures _ c.min-from.ensures c.max-to.ensures c.requires.1)

pub write_u64-requires : goal.write_u64-requires
write_u64-requires c =
    store_at
    (cut_open (search rules) c.requires.0 c.size-old.ensures _ c.min-from.ensures c.max-to.ensures c.requires.1 c.zero.ensures)
    0 8 (omega arith)

pub returns : goal.returns
returns c =
    resized-done (search rules) c.requires.0 c.size-old.ensures _ c.min-from.ensures c.max-to.ensures c.requires.1 c.zero.ensures c.write_u64.ensures

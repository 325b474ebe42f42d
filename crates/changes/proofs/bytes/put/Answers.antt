-- put: zeros in the gap, the bytes, the size.
use Rattle.std.proofs.Common.{rules}
use Rattle.changes.proofs.Storing.{bytes_open, gap_open, open_file, store_at, written-done}
use native.Mathlib.Omega.{arith}
use Rattle.changes.proofs.bytes.put.Goals as goal

pub zero-requires : goal.zero-requires
zero-requires c = store_at (open_file (search rules) c.requires.0) _ _ (omega (arith, c.min-from.ensures))

pub copy_in-requires : goal.copy_in-requires
copy_in-requires c = store_at (gap_open (search rules) c.requires.0 c.size-old.ensures _ _ c.min-from.ensures c.requires.2 c.zero.ensures) _ _ (omega arith)

pub write_u64-requires : goal.write_u64-requires
write_u64-requires c =
    store_at (bytes_open (search rules) c.requires.0 c.size-old.ensures _ _ c.min-from.ensures c.requires.2 c.zero.ensures c.copy_in.ensures) 0 8 (omega arith)

pub returns : goal.returns
returns c =
    written-done (search rules) c.requires.0 c.size-old.ensures _ _ c.min-from.ensures c.requires.2 c.zero.ensures c.copy_in.ensures c.requires.1 c.max.ensures c.write_u64.ensures

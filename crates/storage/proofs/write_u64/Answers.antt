-- write_u64: two halves are one splice.
use Rattle.storage.proofs.Runs.{store_shifted_64}
use lib.Bits.{and_mask, and_le_r}
use lib.Dec.{lit<}
use mathlib.Core.Path.{refl}
use native.Mathlib.Nat.{lt_of_le_of_lt}
use Rattle.storage.proofs.write_u64.Goals as goal

pub overflow_cast-low : goal.overflow_cast-low
overflow_cast-low c = record { fits = lt_of_le_of_lt (and_le_r c.args.n _) (lit< tt) }

pub returns : goal.returns
returns c =
    let s = c in
    store_shifted_64 s.args.s.now _ _ s.args.o.0 s.args.n _ _ s.requires refl (and_mask s.args.n 32)
    c.write_u32.ensures c.write_u32-2.ensures

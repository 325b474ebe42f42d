-- all_distinct: by the number of slots, which is at most 1,024.
use Rattle.tree.proofs.Printing.{few-slots}
use native.Mathlib.Omega.{arith}
use Rattle.tree.proofs.names.all_distinct.Goals as goal

pub distinct_within-requires-in_default : goal.distinct_within-requires-in_default
distinct_within-requires-in_default c = (few-slots c.args.d.sound.directory, omega arith, omega arith)

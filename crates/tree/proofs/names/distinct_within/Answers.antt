-- distinct_within: rows that are long enough.
use Rattle.tree.proofs.Linking.{zeros-at, zeros-front}
use Prim.Native.Nat.{ℕ}
use lib.ListN.{length-replicate}
use native.Mathlib.Omega.{arith}
use mathlib.Core.Path.{◌∙◌}
use Rattle.tree.proofs.names.distinct_within.Goals as goal

pub distinct_in-requires : goal.distinct_in-requires
distinct_in-requires g c =
    let l = zeros-front g.row.N c.slot_count-n.result (omega (arith, c.requires.0, c.slot_count-n.ensures)) in (
      record {
        few = omega (arith, l, c.requires.0, c.requires.1, c.slot_count-n.ensures);
        links = omega arith;
        heads = omega (arith, c.requires.2, length-replicate {A = ℕ} g.row.N 0);
        empty = λ h. zeros-at g.row.N h;
      },
      l ∙ c.slot_count-n.ensures,
    )

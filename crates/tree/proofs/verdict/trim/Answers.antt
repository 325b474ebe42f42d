use Rattle.std.proofs.Common.{◌<◌, length}
use Rattle.std.proofs.lemmas.List.{get_or_default}
use Rattle.std.proofs.lemmas.List.Edits.{map_over_more}
use native.Mathlib.Omega.{arith}
use Rattle.tree.proofs.verdict.trim.Goals as goal

pub loop-mark-preserved : goal.loop-mark-preserved
loop-mark-preserved c =
    let h : c.loop-mark.mark-index < length c.loop-mark.marks = omega (arith, c.loop-mark.auto.marks) in
    map_over_more _ _ _ _ _ c.loop-mark-test.true c.loop-mark.invariant (get_or_default _ _ _ _ h)

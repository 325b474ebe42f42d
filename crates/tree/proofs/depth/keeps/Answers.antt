-- keeps: by the climb, and where it is deep by the slots.
use Rattle.tree.proofs.Tests.{depth-other, depth_lost, depth_low, depth_deep}
use borrow.Author.Tests.{le-leb}
use mathlib.Core.Path.{◌∙◌}
use Rattle.tree.proofs.depth.keeps.Goals as goal

pub returns-in_default : goal.returns-in_default
returns-in_default c = depth-other _ _ _ _ c.in_default.ensures

pub returns-in_default-up : goal.returns-in_default-up
returns-in_default-up c = depth_lost _ _ _ _ c.in-Some.ensures.kind c.in_default-up.ensures

pub returns-then-steps-le15 : goal.returns-then-steps-le15
returns-then-steps-le15 c =
    le-leb _ _ c.if-steps-le15.true ∙ depth_low _ _ _ _ c.in-Some.ensures.kind _ c.in-Some-up.ensures c.if-steps-le15.true

pub returns-else-steps-le15 : goal.returns-else-steps-le15
returns-else-steps-le15 c =
    let d = c.in-Some.ensures in
    depth_deep _ _ _ _ d.kind _ _ c.in-Some-up.ensures c.if-steps-le15.false (rw (d.image, d.at) at c.taken_count.ensures)

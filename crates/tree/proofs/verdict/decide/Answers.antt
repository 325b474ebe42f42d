-- decide: rule 1, then the others.
use Rattle.alloc.specs.Answers.{breaker}
use Rattle.tree.proofs.Whole.{decides-broken, whole_fresh, decides-after}
use mathlib.Core.Path.{ap}
use Rattle.tree.proofs.verdict.decide.Goals as goal

pub after_tiling-requires : goal.after_tiling-requires
after_tiling-requires c =
    whole_fresh c.check.ensures (ap breaker c.in-Ok.is)
    c.requires

pub returns-in-Err : goal.returns-in-Err
returns-in-Err c = rw c.kept.ensures (decides-broken c.check.ensures _ (ap breaker c.in-Err.is))

pub returns-in-Ok : goal.returns-in-Ok
returns-in-Ok c =
    decides-after c.check.ensures (ap breaker c.in-Ok.is)
    c.after_tiling.ensures.is c.after_tiling.ensures.marks

-- begin: refused first, or the walk.
use Rattle.calls.proofs.Steps.{first-passed, first-refused, walk-same}
use Rattle.calls.proofs.Told.{err_is}
use Rattle.calls.specs.Walk.{start}
use mathlib.Core.Path.{◌∙◌}
use Rattle.calls.proofs.walk.begin.Goals as goal

pub returns-in_err-opening : goal.returns-in_err-opening
unfolding start
returns-in_err-opening c =
    rw (err_is _ c.in_err-opening.field-0.0 c.from_residual.ensures.1) (first-refused _ _ _ _ c.in_err-opening.field-0.0 c.in_err-opening.ensures.outcome)

pub returns : goal.returns
unfolding start
returns c = walk-same c.in_ok-opening.ensures.same_image _ c.walk_from.ensures ∙ first-passed _ _ _ _ c.in_ok-opening.ensures.outcome

-- take_step: what is no directory blocks the way.
use Rattle.calls.proofs.Steps.{step-blocked}
use Rattle.calls.specs.Walk.{walked}
use mathlib.Core.Path.{ap}
use Rattle.calls.proofs.walk.take_step.Goals as goal

pub returns-in_default : goal.returns-in_default
returns-in_default c = ap walked (step-blocked _ _ _ c.in_default.ensures)

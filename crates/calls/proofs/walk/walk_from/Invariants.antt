-- walk_from: component after component.
use Rattle.calls.proofs.Steps.{Walking}
use Rattle.path.specs.Path.{components}
use Rattle.calls.proofs.walk.walk_from.Given as goal

abbrev pub invariant-loop-i : goal.invariant-loop-i
invariant-loop-i l = Walking l.image (components l.path) l.at.0 l.i

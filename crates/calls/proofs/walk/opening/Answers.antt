-- opening: the image's own refusal, the path's, that of the numbers, or none.
use Rattle.calls.proofs.Checking.{checked_broken}
use Rattle.calls.proofs.Told.{err_is}
use Rattle.calls.proofs.Steps.{opening-bounds, opening-broken, opening_none, opening-path}
use mathlib.Core.Path.{◌∙◌, sym}
use Rattle.calls.proofs.walk.opening.Goals as goal

pub returns-in_err-formed-clause-outcome : goal.returns-in_err-formed-clause-outcome
returns-in_err-formed-clause-outcome c =
    rw (err_is _ c.in_err-formed.field-0.0 c.from_residual.ensures.1)
    (c.in_err-formed.ensures.outcome ∙ opening-broken _ _ _ (checked_broken _ c.in_err-formed.field-0.0 c.in_err-formed.ensures.outcome))

pub returns-then-not-valid_path-clause-outcome : goal.returns-then-not-valid_path-clause-outcome
returns-then-not-valid_path-clause-outcome c = opening-path _ _ _ c.in_ok-formed.ensures.outcome (sym c.valid_path.ensures ∙ c.if-not-valid_path.true)

pub returns-then-not-allowed-clause-outcome : goal.returns-then-not-allowed-clause-outcome
returns-then-not-allowed-clause-outcome c =
    opening-bounds _ _ _ c.in_ok-formed.ensures.outcome (sym c.valid_path.ensures ∙ c.if-not-valid_path.false) c.if-not-allowed.true

pub returns-clause-outcome : goal.returns-clause-outcome
returns-clause-outcome c =
    opening_none _ _ _ c.in_ok-formed.ensures.outcome (sym c.valid_path.ensures ∙ c.if-not-valid_path.false) c.if-not-allowed.false

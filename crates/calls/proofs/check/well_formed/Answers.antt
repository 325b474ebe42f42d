-- well_formed: by the verdict.
use Rattle.calls.proofs.Checking.{check-is, checked_formed, refusal-broken, refusal_none, rule-some}
use Rattle.calls.proofs.Told.{err_is}
use Rattle.calls.specs.declared.refusal.Refusal.TheVariants as told
use Rattle.tree.specs.Verdict.{unbroken}
use mathlib.Core.Path.{refl}
use Rattle.calls.proofs.check.well_formed.Goals as goal

pub returns-in_err-judge-clause-outcome : goal.returns-in_err-judge-clause-outcome
returns-in_err-judge-clause-outcome c =
    rw (err_is _ (told.Broken c.in_err-judge.field-0.0) c.from_residual.ensures.1)
    (check-is _ c.in_err-judge.ensures (refusal-broken _ (rule-some _)))

pub invariant_of-result-clause-formed : goal.invariant_of-result-clause-formed
invariant_of-result-clause-formed c = checked_formed _ (check-is _ c.in_ok-judge.ensures (refusal_none unbroken refl))

pub returns-clause-outcome : goal.returns-clause-outcome
returns-clause-outcome c = check-is _ c.in_ok-judge.ensures (refusal_none unbroken refl)

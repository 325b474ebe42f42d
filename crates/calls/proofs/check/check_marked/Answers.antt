-- check_marked: too few marks, or by the verdict.
use Rattle.calls.proofs.Checking.{checks_few, checks_judged, refusal-broken, refusal_none, rule-some}
use Rattle.calls.proofs.Told.{err_is}
use Rattle.calls.specs.declared.refusal.Refusal.TheVariants as told
use Rattle.tree.specs.Verdict.{unbroken}
use mathlib.Core.Path.{refl}
use native.Mathlib.Omega.{arith}
use Rattle.calls.proofs.check.check_marked.Goals as goal

pub returns-then-marks-units_of : goal.returns-then-marks-units_of
returns-then-marks-units_of c = checks_few _ _ (omega arith)

pub returns-in_err-judge_marked : goal.returns-in_err-judge_marked
returns-in_err-judge_marked c =
    rw (err_is _ (told.Broken c.in_err-judge_marked.field-0.0) c.from_residual.ensures.1)
    (checks_judged (omega arith) c.in_err-judge_marked.ensures (refusal-broken _ (rule-some _)))

pub returns : goal.returns
returns c = checks_judged (omega arith) c.in_ok-judge_marked.ensures (refusal_none unbroken refl)

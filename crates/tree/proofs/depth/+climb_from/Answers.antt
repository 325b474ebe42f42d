-- climb_from: a step up leaves one step less.
use Rattle.std.proofs.Common.{sym, ap, ◌∙◌, arith}
use Rattle.tree.specs.Answers.{climbed}
use Rattle.tree.proofs.Tests.{climb_here, climb_out, climb_lost, climb_none, climb_some, climb-low}
use borrow.Author.Tests.{eqb-true, eqb-false}
use Rattle.tree.proofs.depth.+climb_from.Goals as goal

pub returns-then-eq : goal.returns-then-eq
returns-then-eq t c = climb_here _ _ _ _ (eqb-true _ _ (sym c.eq.ensures ∙ c.if-eq.true))

pub returns-then-left-eq0 : goal.returns-then-left-eq0
returns-then-left-eq0 t c = climb_out _ _ _ (eqb-false _ _ (sym c.eq.ensures ∙ c.if-eq.false)) _ c.if-left-eq0.true

pub returns-in_err-up : goal.returns-in_err-up
returns-in_err-up t c =
    ap climbed c.from_residual.ensures
    ∙ climb_lost _ _ _ (eqb-false _ _ (sym c.eq.ensures ∙ c.if-eq.false)) _ c.if-left-eq0.false c.in_err-up.ensures

pub returns-in_err-steps : goal.returns-in_err-steps
returns-in_err-steps t c =
    ap climbed c.from_residual-in_err-steps.ensures
    ∙ climb_none _ _ _ (eqb-false _ _ (sym c.eq.ensures ∙ c.if-eq.false)) _ c.if-left-eq0.false c.in_ok-up.ensures
    (sym (ap climbed c.in_err-steps.was) ∙ c.climb_from.ensures)

pub overflow_add-result : goal.overflow_add-result
overflow_add-result t c = omega (arith, climb-low _ _ _ _ _ (sym (ap climbed c.in_ok-steps.was) ∙ c.climb_from.ensures))

pub returns : goal.returns
returns t c =
    climb_some _ _ _ (eqb-false _ _ (sym c.eq.ensures ∙ c.if-eq.false)) _ c.if-left-eq0.false c.in_ok-up.ensures _
    (sym (ap climbed c.in_ok-steps.was) ∙ c.climb_from.ensures)

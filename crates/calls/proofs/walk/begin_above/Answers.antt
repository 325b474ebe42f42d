-- begin_above: refused first, the root, or the walk to the directory.
use Prim.Native.Nat.{ℕ}
use mathlib.Core.List.{List}
use Rattle.calls.proofs.Steps.{above-directory, above-file, above-first, above-refused, above_root, walked-object}
use Rattle.calls.proofs.Told.{err_is}
use Rattle.calls.specs.Answers.{ObjectAt}
use mathlib.Core.Path.{subst}
use Rattle.calls.proofs.walk.begin_above.Goals as goal

pub returns-in_err-formed : goal.returns-in_err-formed
returns-in_err-formed c =
    rw (err_is _ c.in_err-formed.field-0.0 c.from_residual.ensures.1) (above-first _ _ _ _ c.in_err-formed.field-0.0 c.in_err-formed.ensures.outcome)

pub returns-then-count-eq0 : goal.returns-then-count-eq0
returns-then-count-eq0 c = above_root _ _ _ _ c.in_ok-formed.ensures.outcome c.count.ensures c.if-count-eq0.true

pub returns-in_err-at : goal.returns-in_err-at
returns-in_err-at c =
    let o = c.in_ok-formed.ensures in
    rw (err_is _ c.in_err-at.field-0.0 c.from_residual-in_err-at.ensures.1)
    (above-refused _ _ _ _ o.outcome c.count.ensures c.if-count-eq0.false _ c.directory.ensures o.same_image _ c.in_err-at.ensures)

pub invariant_of-object-clause-there : goal.invariant_of-object-clause-there
invariant_of-object-clause-there c =
    let f = c.in_ok-formed in
    subst (λ (s : List ℕ). ObjectAt s c.in_ok-at.at.0) f.ensures.same_image (walked-object f.formed.bytes f.formed.formed _ _ c.in_ok-at.ensures)

pub returns-in_default : goal.returns-in_default
returns-in_default c =
    let o = c.in_ok-formed.ensures in
    above-file _ _ _ _ o.outcome c.count.ensures c.if-count-eq0.false _ c.directory.ensures o.same_image _ c.in_ok-at.ensures
    c.in_default.ensures

pub returns : goal.returns
returns c =
    let o = c.in_ok-formed.ensures in
    above-directory _ _ _ _ o.outcome c.count.ensures c.if-count-eq0.false _ c.directory.ensures o.same_image _ c.in_ok-at.ensures
    c.in-Some.ensures.kind

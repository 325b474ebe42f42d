-- later_rules: none in one walk, or rule by rule.
use Rattle.std.proofs.lemmas.Result.{err_from_is_err_and}
use Rattle.tree.proofs.Judging.{judged_blocks, judged_chain, numbered-rule}
use Rattle.tree.proofs.Whole.{none_verdict}
use Rattle.tree.specs.Verdict.{or_else, unbroken}
use mathlib.Core.Bool.{true}
use mathlib.Core.Option.{Option}
use mathlib.Core.Path.{◌∙◌, ap, sym, refl}
use Prim.Native.Nat.{ℕ}
use Rattle.tree.proofs.verdict.later_rules.Goals as goal

pub returns-then-none_broken : goal.returns-then-none_broken
returns-then-none_broken c =
    let k = c.none_broken.ensures c.if-none_broken.true in
    judged_chain _ _ c.requires.root_is c.requires.rule_2 _ (none_verdict c.requires.rule_3 k.0) refl true (sym k.1)

pub returns-in_err-later_broken : goal.returns-in_err-later_broken
returns-in_err-later_broken c =
    let p = err_from_is_err_and c.from_residual.result c.from_residual.ensures.1 in
    rw (p.1, p.2) (judged_blocks _ _ c.requires.root_is c.requires.rule_2 _ c.in_err-later_broken.ensures (numbered-rule _))

pub returns : goal.returns
returns c =
    c.kept.ensures ∙ ap (λ (o : Option ℕ). or_else 8 o unbroken) c.unless.ensures
    ∙ judged_chain _ _ c.requires.root_is c.requires.rule_2 _ c.in_ok-later_broken.ensures refl _ c.chained.ensures

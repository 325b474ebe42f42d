-- judge_marked: the marks are cleared, or without what was counted.
use Rattle.tree.proofs.Judging.{numbered-rule}
use Rattle.tree.proofs.Whole.{judges_broken, judges_kept}
use Rattle.tree.specs.Answers.{verdict_of}
use Rattle.tree.specs.Verdict.{Verdict}
use mathlib.Core.Path.{◌∙◌, ap, sym}
use Rattle.tree.proofs.verdict.judge_marked.Goals as goal

pub returns-in-Err : goal.returns-in-Err
returns-in-Err c =
    let e = ap verdict_of c.in-Err.is in
    rw e at (judges_broken c.decide-v.ensures (λ z. numbered-rule _ (sym (ap (λ (v : Verdict). v.rule) e) ∙ z)) c.clear.ensures)

pub returns : goal.returns
returns c =
    let e = ap verdict_of c.in_default.is in
    rw e at (judges_kept c.decide-v.ensures (ap (λ (v : Verdict). v.rule) e) c.units_of.ensures c.trim.ensures)

-- after_tiling: the root, the slots, the others.
use Rattle.alloc.specs.Volume.{volume_of, objects, chained}
use Rattle.std.proofs.lemmas.Result.{err_from_is_err_and}
use Rattle.tree.proofs.Joint.{ready_of}
use Rattle.tree.proofs.Judging.{hold_start, judged_blocks, root_out, root_in, rule_out, kept_so, numbered-rule}
use Rattle.tree.specs.Verdict.{rule3, unless}
use mathlib.Core.Path.{◌∙◌, ap}
use native.Mathlib.Omega.{arith}
use Rattle.tree.proofs.verdict.after_tiling.Goals as goal

pub returns-in_err-kept-clause-is : goal.returns-in_err-kept-clause-is
returns-in_err-kept-clause-is c =
    let p = err_from_is_err_and c.from_residual.result c.from_residual.ensures.1 in
    rw (p.1, p.2) (root_out _ _ c.root-root.ensures (c.unless.ensures ∙ ap unless c.root_stands.ensures) c.in_err-kept.ensures (numbered-rule _))

pub returns-in_err-kept-2-clause-is : goal.returns-in_err-kept-2-clause-is
returns-in_err-kept-2-clause-is c =
    let top = root_in (objects (volume_of c.args.image.now)) (chained c.args.image.now) c.root-root.ensures
    (c.unless.ensures ∙ ap unless c.root_stands.ensures) (c.in_ok-kept.ensures) in
    let p = err_from_is_err_and c.from_residual-in_err-kept-2.result c.from_residual-in_err-kept-2.ensures.1 in
    rw (p.1, p.2) (judged_blocks _ _ c.root-root.ensures top _
    (rule_out rule3 hold_start c.first_unslotted.ensures.breaker c.in_err-kept-2.ensures (numbered-rule _)) (numbered-rule _))

pub later_rules-requires : goal.later_rules-requires
later_rules-requires c =
    let top = root_in (objects (volume_of c.args.image.now)) (chained c.args.image.now) c.root-root.ensures
    (c.unless.ensures ∙ ap unless c.root_stands.ensures) (c.in_ok-kept.ensures) in
    ready_of c.requires c.first_unslotted.ensures (kept_so 3 _ (λ z. omega arith) c.in_ok-kept-2.ensures) c.root-root.ensures top

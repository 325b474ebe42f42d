-- later_broken: each rule in turn is broken, or holds for those after it.
use Rattle.alloc.specs.Volume.{volume_of, objects}
use Rattle.std.proofs.Common.{rules}
use Rattle.std.proofs.lemmas.Result.{err_from_is_err_and}
use Rattle.tree.proofs.Judging.{tested, hold-above, rule_in, rule_out, rule_last, numbered-rule}
use Rattle.tree.proofs.Whole.{naming_told, ready_slots}
use Rattle.tree.specs.Verdict.{rule4, rule5, rule6, rule7}
use Rattle.alloc.specs.Block.{block_of}
use Rattle.alloc.specs.Sound.{Tiled}
use Rattle.tree.specs.Fields.{slots}
use Rattle.tree.specs.Rules.{slots_stand}
use Rattle.tree.proofs.Whole.{names_told, file_told}
use Prim.Native.Nat.{ℕ}
use mathlib.Core.List.{List}
use mathlib.Core.Bool.{true}
use mathlib.Core.Path.{◌∙◌, ◌≡◌, sym, subst}
use Rattle.tree.proofs.verdict.Counted.later_broken.Goals as goal

pub first_breaker-requires-3 : goal.first_breaker-requires-3
first_breaker-requires-3 c = λ b i o.
    let e = subst (λ (s : List ℕ). Tiled s × (slots_stand (objects (volume_of s)) (slots (block_of s b.at.0)) ≡ true)) (sym i)
    (c.args.self.ready.marked.tiled, ready_slots c.args.self.ready o) in
    search rules

pub returns-in_err-kept : goal.returns-in_err-kept
returns-in_err-kept c =
    let b4 = c.first_breaker.ensures (tested rule4 c.args.self.marks.image.now c.args.self.root.0) (λ b t i o e. naming_told c.args.self.ready o (search rules)) in
    let p = err_from_is_err_and c.from_residual.result c.from_residual.ensures.1 in
    rw (p.1, p.2) (rule_out rule4 (hold-above c.args.self.ready.rule_3) b4 c.in_err-kept.ensures (numbered-rule _))

pub returns-in_err-kept-2 : goal.returns-in_err-kept-2
returns-in_err-kept-2 c =
    let b4 = c.first_breaker.ensures (tested rule4 c.args.self.marks.image.now c.args.self.root.0) (λ b t i o e. naming_told c.args.self.ready o (search rules)) in
    let h5 = rule_in rule4 (hold-above c.args.self.ready.rule_3) b4 c.in_ok-kept.ensures in
    let b5 = c.first_breaker-2.ensures (tested rule5 c.args.self.marks.image.now c.args.self.root.0) (λ b t i o e. search rules) in
    let p = err_from_is_err_and c.from_residual-in_err-kept-2.result c.from_residual-in_err-kept-2.ensures.1 in
    rw (p.1, p.2) (rule_out rule5 h5 b5 c.in_err-kept-2.ensures (numbered-rule _))

pub returns-in_err-kept-3 : goal.returns-in_err-kept-3
returns-in_err-kept-3 c =
    let b4 = c.first_breaker.ensures (tested rule4 c.args.self.marks.image.now c.args.self.root.0) (λ b t i o e. naming_told c.args.self.ready o (search rules)) in
    let h5 = rule_in rule4 (hold-above c.args.self.ready.rule_3) b4 c.in_ok-kept.ensures in
    let b5 = c.first_breaker-2.ensures (tested rule5 c.args.self.marks.image.now c.args.self.root.0) (λ b t i o e. search rules) in
    let h6 = rule_in rule5 h5 b5 c.in_ok-kept-2.ensures in
    let b6 = c.first_breaker-3.ensures (tested rule6 c.args.self.marks.image.now c.args.self.root.0) (λ b t i o e. names_told b i (search rules)) in
    let p = err_from_is_err_and c.from_residual-in_err-kept-3.result c.from_residual-in_err-kept-3.ensures.1 in
    rw (p.1, p.2) (rule_out rule6 h6 b6 c.in_err-kept-3.ensures (numbered-rule _))

pub returns : goal.returns
returns c =
    let b4 = c.first_breaker.ensures (tested rule4 c.args.self.marks.image.now c.args.self.root.0) (λ b t i o e. naming_told c.args.self.ready o (search rules)) in
    let h5 = rule_in rule4 (hold-above c.args.self.ready.rule_3) b4 c.in_ok-kept.ensures in
    let b5 = c.first_breaker-2.ensures (tested rule5 c.args.self.marks.image.now c.args.self.root.0) (λ b t i o e. search rules) in
    let h6 = rule_in rule5 h5 b5 c.in_ok-kept-2.ensures in
    let b6 = c.first_breaker-3.ensures (tested rule6 c.args.self.marks.image.now c.args.self.root.0) (λ b t i o e. names_told b i (search rules)) in
    let h7 = rule_in rule6 h6 b6 c.in_ok-kept-3.ensures in
    let b7 = c.first_breaker-4.ensures (tested rule7 c.args.self.marks.image.now c.args.self.root.0) (λ b t i o e. file_told b i (search rules)) in
    c.kept-4.ensures ∙ rule_last h7 b7

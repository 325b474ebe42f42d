use Rattle.tree.proofs.Printing.{comparing_start, comparing_on}
use Rattle.tree.proofs.Rows.{apart-end, apart_out, apart_next, left-start, directory-is}
use Rattle.tree.specs.Rules.{distinct}
use mathlib.Core.Path.{refl, ◌∙◌, ap, sym}
use native.Mathlib.Omega.{arith}
use Rattle.tree.proofs.names.distinct_by.Goals as goal
use Rattle.tree.proofs.names.distinct_by.Goals.{then-loop-i-test+then-loop-j-test+then-equal_by, else-loop-i-test}

pub loop-j-init : goal.loop-j-init
loop-j-init g c = comparing_start c.requires.leads c.args.prints.printed refl (omega (arith, c.slot_count-n.ensures)) c.loop-i.invariant c.next-j.ensures

pub loop-j-preserved : goal.loop-j-preserved
loop-j-preserved g c =
    comparing_on c.requires.leads c.args.prints.printed refl (omega (arith, c.slot_count-n.ensures)) c.loop-j.invariant (omega (arith, c.slot_count-n.ensures))
    (sym c.equal_by.ensures ∙ c.if-equal_by.false) c.next-j-in-loop-j.ensures

pub loop-i-preserved : goal.loop-i-preserved
loop-i-preserved g c = apart_next c.loop-j.invariant.apart (omega (arith, c.slot_count-n.ensures)) (omega (arith, c.slot_count-n.ensures))

pub returns : goal.returns
returns g c =
    let whole = ap (distinct _) (sym (left-start _ (directory-is c.args.prints.directory.sound.directory))) in
    elim c.loop-i-test.branch [
      | then-loop-i-test+then-loop-j-test+then-equal_by w ↦
          w.result-is
          ∙ apart_out w.loop-j.invariant.apart (omega (arith, c.slot_count-n.ensures)) (omega (arith, c.slot_count-n.ensures))
          (sym w.equal_by.ensures ∙ w.if-equal_by.true)
          ∙ whole
      | else-loop-i-test w ↦ w.result-is ∙ apart-end c.loop-i.invariant (omega (arith, c.slot_count-n.ensures)) ∙ whole
    ]

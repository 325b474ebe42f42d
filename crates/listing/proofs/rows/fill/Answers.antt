-- fill: a line is given in each turn, and stored.
use Rattle.std.proofs.Common.{List, ◌∙◌, ap, arith, length, set}
use Rattle.listing.specs.declared.lines.Line.{Line}
use Rattle.listing.proofs.Cursors.{ahead-length, ahead-line, ahead-next, given, none-given}
use Rattle.listing.proofs.Stored.{filled, filled-next, filled_whole, line-stored}
use Rattle.listing.proofs.rows.fill.Goals as goal
use Rattle.listing.proofs.rows.fill.Goals.{in-Some, in_default}

pub loop-line-preserved : goal.loop-line-preserved
loop-line-preserved c =
    let a = c.loop-line.invariant.ahead in
    elim c.match-next.branch [
      | in-Some w ↦
          let e = given w.in-Some.is c.next.ensures.steps.1 in
          record {
            ahead = ahead-next a e;
            stored =
                w.line-items-is ∙ ap (λ (v : List Line). set v c.loop-line.line-index w.in-Some.next) c.loop-line.invariant.stored
                ∙ ap (set (filled c.args.formed.image.now c.loop-line.line-index c.args.lines.now) c.loop-line.line-index)
                (line-stored c.args.formed.image.now c.loop-line.line-index (ahead-line a e))
                ∙ filled-next c.args.formed.image.now c.args.lines.now c.loop-line.line-index c.loop-line-test.true;
          }
      | in_default w ↦ absurd (omega (arith, ahead-length a, ap length (none-given _ w.in_default.is c.next.ensures.steps.1), c.requires, c.loop-line-test.true))
    ]

pub returns : goal.returns
returns c = c.loop-line.invariant.stored ∙ filled_whole _ _ _ c.loop-line-test.false c.loop-line.auto.line-index-end

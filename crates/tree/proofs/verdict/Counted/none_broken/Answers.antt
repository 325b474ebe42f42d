use Rattle.alloc.proofs.Links.{links-start, links_end, links-on}
use Rattle.alloc.proofs.Walking.{walk_starts, passed, passed_all}
use Rattle.tree.proofs.Joint.{kept_free}
use Rattle.tree.proofs.Visits.{object_here}
use Rattle.tree.proofs.Whole.{walks_start, walks_on, walks_end}
use borrow.Author.Tests.{eqb-true, eqb-false}
use mathlib.Core.Path.{◌∙◌, sym, refl}
use Rattle.tree.proofs.verdict.Counted.none_broken.Goals as goal
use Rattle.tree.proofs.verdict.Counted.none_broken.Goals.{else-not-is-via-then-not-is+else-not-keeps_all, else-not-is-via-else-not-is}

pub loop-block-init : goal.loop-block-init
loop-block-init c =
    let w = walk_starts c.blocks-block-items.ensures c.into_iter-block-iterator.ensures.into_iter_gives in
    record {
      walk = w.0;
      objects = rw w.1 (walks_start _ c.args.self.ready.marked.tiled);
      links = rw (w.1, c.start-scan.ensures.1) (links-start c.args.self.ready.marked.tiled c.start-scan.ensures.0);
    }

pub keeps_all-requires : goal.keeps_all-requires
keeps_all-requires c =
    let p = passed c.loop-block.invariant.walk _ c.in-Some.block c.in-Some.ensures.steps in
    (p.image, rw (p.image, p.here) (object_here c.loop-block.invariant.objects.cut p.more (eqb-false _ _ (rw (p.image, p.here) at (sym c.is.ensures ∙ c.if-not-is.true)))))

pub loop-block-preserved : goal.loop-block-preserved
loop-block-preserved c =
    let v = c.loop-block.invariant in
    let p = passed v.walk _ c.in-Some.block c.in-Some.ensures.steps in
    record {
      walk = p.walk;
      objects = elim c.else-not-is.branch [
        | else-not-is-via-then-not-is+else-not-keeps_all w ↦ walks_on v.objects p.more (rw p.here at (w.keeps_all.ensures w.if-not-keeps_all.false)) _ _ p.next refl
        | else-not-is-via-else-not-is w ↦ walks_on v.objects p.more (kept_free _ _ _ (eqb-true _ _ (rw (p.image, p.here) at (sym c.is.ensures ∙ w.if-not-is.false)))) _ _ p.next refl
      ];
      links = links-on v.links p.more _ _ _ (rw (p.image, p.here) at c.pass.ensures) c.if-not-pass.false _ _ p.next refl;
    }

pub returns : goal.returns
returns c = λ e.
    let h = passed_all c.loop-block.invariant.walk c.next.new.self c.in-None.ensures.steps in
    (walks_end c.loop-block.invariant.objects h, sym (links_end c.loop-block.invariant.links h) ∙ sym c.ends.ensures ∙ e)

-- chained: one step of the scan for each block.
use Rattle.alloc.proofs.Links.{links-start, links_end, links-broken, links-on}
use Rattle.alloc.proofs.Walking.{walk_starts, passed, passed_all}
use mathlib.Core.Path.{refl, ◌∙◌}
use Rattle.alloc.proofs.tiled.Tiled.chained.Goals as goal

pub loop-block-init : goal.loop-block-init
loop-block-init c =
    let w = walk_starts c.blocks-block-items.ensures c.into_iter-block-iterator.ensures.into_iter_gives in
    record { walk = w.0; links = rw (w.1, c.start-scan.ensures.1) (links-start c.args.self.tiled c.start-scan.ensures.0) }

pub returns-then-not-pass : goal.returns-then-not-pass
returns-then-not-pass c =
    let p = passed c.loop-block.invariant.walk _ c.in-Some.block c.in-Some.ensures.steps in
    links-broken c.loop-block.invariant.links p.more _ _ _ (rw (p.image, p.here) at c.pass.ensures) c.if-not-pass.true

pub loop-block-preserved : goal.loop-block-preserved
loop-block-preserved c =
    let p = passed c.loop-block.invariant.walk _ c.in-Some.block c.in-Some.ensures.steps in
    record { walk = p.walk; links = links-on c.loop-block.invariant.links p.more _ _ _ (rw (p.image, p.here) at c.pass.ensures) c.if-not-pass.false _ _ p.next refl }

pub returns : goal.returns
returns c = c.ends.ensures ∙ links_end c.loop-block.invariant.links (passed_all c.loop-block.invariant.walk c.next.new.self c.in-None.ensures.steps)

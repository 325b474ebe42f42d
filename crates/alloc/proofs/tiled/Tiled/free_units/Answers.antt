-- free_units: one block counted in each turn.
use Rattle.alloc.proofs.Lookups.{counts_start, counts_on, counts_end}
use Rattle.alloc.proofs.Walking.{walk_starts, passed, passed_all}
use mathlib.Core.Path.{refl}
use native.Mathlib.Omega.{arith}
use Rattle.alloc.proofs.tiled.Tiled.free_units.Goals as goal

pub loop-block-init : goal.loop-block-init
loop-block-init c =
    let w = walk_starts c.blocks-block-items.ensures c.into_iter-block-iterator.ensures.into_iter_gives in
    record { walk = w.0; counts = rw w.1 (counts_start c.args.self.tiled) }

pub overflow_add-total : goal.overflow_add-total
overflow_add-total c =
    let w = c.loop-block.invariant in
    let p = passed w.walk _ c.in-Some.block c.in-Some.ensures.steps in
    omega (arith, p.standing.fits, w.walk.reached, (counts_on w.counts p.more _ _ _ (rw (p.image, p.here) at c.free_in-total.ensures) refl refl).few)

pub loop-block-preserved : goal.loop-block-preserved
loop-block-preserved c =
    let p = passed c.loop-block.invariant.walk _ c.in-Some.block c.in-Some.ensures.steps in
    record { walk = p.walk; counts = counts_on c.loop-block.invariant.counts p.more _ _ _ (rw (p.image, p.here) at c.free_in-total.ensures) p.next refl }

pub returns : goal.returns
returns c = counts_end c.loop-block.invariant.counts (passed_all c.loop-block.invariant.walk c.next.new.self c.in-None.ensures.steps)

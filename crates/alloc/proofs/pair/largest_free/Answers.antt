-- largest_free: one free block counted in each turn.
use Rattle.alloc.proofs.Fits.{scans_start, scans_end, scans_on}
use Rattle.alloc.proofs.FreeWalks.{gaps_start, met, met_all, comes_sees}
use Rattle.alloc.proofs.pair.largest_free.Goals as goal

pub loop-gap-init : goal.loop-gap-init
loop-gap-init c =
    let w = gaps_start c.gaps-gap-items.ensures c.into_iter-gap-iterator.ensures.into_iter_gives in
    record { walk = w.0; scans = scans_start c.args.sound.sound w.2.reads }

pub loop-gap-preserved : goal.loop-gap-preserved
loop-gap-preserved c =
    let p = met c.loop-gap.invariant.walk c.next.new.self c.in-Some.ensures.steps in
    record {
      walk = p.walk;
      scans = scans_on c.loop-gap.invariant.scans p.comes.there (comes_sees p.comes) _ _ c.with_units-found.ensures.0 c.with_units-found.ensures.1;
    }

pub returns : goal.returns
returns c = scans_end c.loop-gap.invariant.scans (met_all c.loop-gap.invariant.walk c.next.new.self c.in-None.ensures.steps)

-- last_free: the free blocks up to the block.
use Rattle.alloc.proofs.FreeWalks.{gaps_start, met, met_all, met_gap, comes_at}
use Rattle.alloc.proofs.Plans.{Trails, trails_start, trails_on, trails_far, trails_end}
use Rattle.std.proofs.Common.{tests}
use Prim.Native.Nat.{ℕ}
use mathlib.Core.Path.{◌∙◌, sym, subst}
use native.Mathlib.Omega.{arith}
use Rattle.alloc.proofs.release.Held.last_free.Goals as goal

pub invariant_of-sound : goal.invariant_of-sound
invariant_of-sound c = record { sound = c.args.self.held.sound }

pub loop-gap-init : goal.loop-gap-init
loop-gap-init c =
    let w = gaps_start c.gaps-gap-items.ensures c.into_iter-gap-iterator.ensures.into_iter_gives in
    record { walk = w.0; trails = trails_start c.args.self.held w.2.reads; gap = tt }

pub returns-then-le : goal.returns-then-le
returns-then-le c =
    let w = c.loop-gap.invariant.trails in
    let p = met c.loop-gap.invariant.walk c.next.new.self c.in-Some.ensures.steps in
    let e = comes_at p.comes in
    (record { hooks = trails_far w p.comes.there (grind (arith, tests, e, c.le.ensures, c.if-le.true)); reads = e ∙ w.walk.reads; before = w.before }, c.loop-gap.invariant.gap)

pub loop-gap-preserved : goal.loop-gap-preserved
loop-gap-preserved c =
    let p = met c.loop-gap.invariant.walk c.next.new.self c.in-Some.ensures.steps in
    let e = comes_at p.comes in
    let t : Trails c.args.self.image.now c.args.self.at.0 c.loop-gap.gap-iterator.at.0 c.next.new.self.at.0 =
    trails_on c.loop-gap.invariant.trails p.comes.there (grind (arith, tests, e, c.le.ensures, c.if-le.false)) p.comes.inner p.comes.reads in
    record {
      walk = p.walk;
      trails = subst (λ (i : ℕ). Trails c.args.self.image.now c.args.self.at.0 i c.next.new.self.at.0) (sym e) t;
      gap = met_gap c.loop-gap.invariant.walk p;
    }

pub returns : goal.returns
returns c =
    let w = c.loop-gap.invariant.trails in
    let e = met_all c.loop-gap.invariant.walk c.next.new.self c.in-None.ensures.steps in
    (record { hooks = trails_end w e; reads = sym e ∙ w.walk.reads; before = w.before }, c.loop-gap.invariant.gap)

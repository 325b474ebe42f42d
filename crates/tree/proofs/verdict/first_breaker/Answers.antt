use Rattle.alloc.proofs.Walking.{walk_starts, passed, passed_all}
use Rattle.tree.proofs.Visits.{walks_begin, walks_at, object_here, walks_free, walks_past, walks_broken, visits_end}
use borrow.Author.Tests.{eqb-true, eqb-false}
use mathlib.Core.Path.{◌∙◌, sym, refl}
use native.Mathlib.Omega.{arith}
use Rattle.tree.proofs.verdict.first_breaker.Goals as goal
use Rattle.tree.proofs.verdict.first_breaker.Goals.{else-not-is-via-then-not-is+else-not-keeps, else-not-is-via-else-not-is}

pub loop-block-init : goal.loop-block-init
loop-block-init g c =
    let w = walk_starts c.blocks-block-items.ensures c.into_iter-block-iterator.ensures.into_iter_gives in
    record { walk = w.0; visits = rw w.1 (walks_begin c.args.tiled.tiled) }

pub keeps-requires : goal.keeps-requires
keeps-requires g c =
    let p = passed c.loop-block.invariant.walk _ c.in-Some.block c.in-Some.ensures.steps in
    c.requires _ p.image (object_here (walks_at c.in-Some.block.at p.here c.loop-block.invariant.visits).cut (omega (arith, p.here, p.more))
    (eqb-false _ _ (rw p.image at (sym c.is.ensures ∙ c.if-not-is.true))))

pub returns-then-not-keeps : goal.returns-then-not-keeps
returns-then-not-keeps g c =
    let p = passed c.loop-block.invariant.walk _ c.in-Some.block c.in-Some.ensures.steps in
    walks_broken _ p.image c.keeps.ensures (walks_at c.in-Some.block.at p.here c.loop-block.invariant.visits) (omega (arith, p.here, p.more))
    (eqb-false _ _ (rw p.image at (sym c.is.ensures ∙ c.if-not-is.true))) c.if-not-keeps.true

pub loop-block-preserved : goal.loop-block-preserved
loop-block-preserved g c =
    let p = passed c.loop-block.invariant.walk _ c.in-Some.block c.in-Some.ensures.steps in
    let v = walks_at c.in-Some.block.at p.here c.loop-block.invariant.visits in
    record {
      walk = p.walk;
      visits = elim c.else-not-is.branch [
        | else-not-is-via-then-not-is+else-not-keeps w ↦
            walks_past _ p.image w.keeps.ensures v (omega (arith, p.here, p.more)) (eqb-false _ _ (rw p.image at (sym c.is.ensures ∙ w.if-not-is.true)))
            w.if-not-keeps.false _ _ (rw (← p.here) at p.next) refl
        | else-not-is-via-else-not-is w ↦
            walks_free v (omega (arith, p.here, p.more)) (eqb-true _ _ (rw p.image at (sym c.is.ensures ∙ w.if-not-is.false))) _ _
            (rw (← p.here) at p.next) refl
      ];
    }

pub returns : goal.returns
returns g c = λ p k. visits_end (c.loop-block.invariant.visits.each p k) (passed_all c.loop-block.invariant.walk c.next.new.self c.in-None.ensures.steps)

use Rattle.alloc.proofs.Walking.{walk_starts, passed, passed_all}
use Rattle.tree.proofs.Joint.{slots-start, slots_on, slots-broken, slots_end}
use mathlib.Core.Path.{◌∙◌, sym, refl}
use Rattle.tree.proofs.verdict.first_unslotted.Goals as goal

pub loop-block-init : goal.loop-block-init
loop-block-init c =
    let w = walk_starts c.blocks-block-items.ensures c.into_iter-block-iterator.ensures.into_iter_gives in
    record { walk = w.0; slots = rw w.1 (slots-start c.requires.marked) }

pub keeps-requires : goal.keeps-requires
keeps-requires c =
    let p = passed c.loop-block.invariant.walk _ c.in-Some.block c.in-Some.ensures.steps in
    rw p.here p.standing

pub returns-then-not-keeps : goal.returns-then-not-keeps
returns-then-not-keeps c =
    let p = passed c.loop-block.invariant.walk _ c.in-Some.block c.in-Some.ensures.steps in
    rw p.here (slots-broken c.loop-block.invariant.slots p.more _ (rw p.here at c.keeps.ensures) c.if-not-keeps.true)

pub note_block-requires : goal.note_block-requires
note_block-requires c =
    let p = passed c.loop-block.invariant.walk _ c.in-Some.block c.in-Some.ensures.steps in
    rw p.image (c.loop-block.invariant.slots.folds.annotated.marked, sym c.keeps.ensures ∙ c.if-not-keeps.false)

pub loop-block-preserved : goal.loop-block-preserved
loop-block-preserved c =
    let p = passed c.loop-block.invariant.walk _ c.in-Some.block c.in-Some.ensures.steps in
    record {
      walk = p.walk;
      slots = slots_on c.loop-block.invariant.slots p.more _ (rw p.here at c.keeps.ensures) c.if-not-keeps.false _
          (rw (p.image, p.here) at c.note_block.ensures) _ _ p.next refl;
    }

pub returns : goal.returns
returns c = slots_end c.loop-block.invariant.slots (passed_all c.loop-block.invariant.walk c.next.new.self c.in-None.ensures.steps)

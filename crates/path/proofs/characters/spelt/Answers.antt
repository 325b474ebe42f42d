-- spelt: each byte in its turn, from the first that does not stand alone.
use Rattle.std.proofs.Common.{arith, ◌∙◌, sym, ap, false}
use Rattle.std.proofs.lemmas.List.{take_rest}
use Rattle.path.specs.Spelling.{spelt}
use Rattle.path.proofs.Spelling.{passed-end}
use Rattle.path.proofs.Walk.{walk_on, walk_stop, walk_end}
use Rattle.path.proofs.characters.spelt.Goals as goal

pub loop-b-init : goal.loop-b-init
loop-b-init c = (
  omega arith,
  record { inside = omega arith; same = c.plain.ensures.same ∙ ap spelt (sym (take_rest c.args.name.now c.plain.result)) },
)

pub after-requires : goal.after-requires
after-requires c = c.loop-b.invariant.0

pub returns-in_default : goal.returns-in_default
returns-in_default c = walk_stop c.loop-b.invariant.1 0 false (omega arith) c.in_default.ensures.never

pub loop-b-preserved : goal.loop-b-preserved
loop-b-preserved c =
    (c.in-Some.ensures.high-enough, walk_on c.loop-b.invariant.1 0 _ (omega arith) c.in-Some.ensures.same)

pub returns : goal.returns
returns c = passed-end _ _ _ ∙ walk_end c.loop-b.invariant.1 0 (omega arith)

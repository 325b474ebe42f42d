use Rattle.std.proofs.Common.{◌/◌, length}
use Rattle.std.proofs.lemmas.Iterator.Consumers.{YieldsList-turn, YieldsList-end}
use Rattle.std.proofs.lemmas.List.{length_push}
use Rattle.show.proofs.Spreading.{numbered, spreading_start, spreading_on, spreading_end}
use Rattle.show.proofs.spread.Goals as goal

pub loop-i-init : goal.loop-i-init
loop-i-init c = spreading_start _ _

pub loop-i-preserved : goal.loop-i-preserved
loop-i-preserved c =
    let all = numbered c.into_iter-i-iterator.result c.args.words.now (length c.args.image.now / 8) (cc) (cc) (cc) in
    let next = YieldsList-turn all c.loop-i.yielded _ c.loop-i.yielded_by _ _ (c.in-Some.i, c.in-Some.word) c.in-Some.is c.next.ensures.steps in
    rw (length_push c.loop-i.yielded (c.in-Some.i, c.in-Some.word)) (spreading_on c.loop-i.invariant next c.write_u64.ensures)

pub returns : goal.returns
returns c =
    let all = numbered c.into_iter-i-iterator.result c.args.words.now (length c.args.image.now / 8) (cc) (cc) (cc) in
    spreading_end _ c.loop-i.invariant (YieldsList-end all c.loop-i.yielded _ c.loop-i.yielded_by _ _ c.in-None.is c.next.ensures.steps).1

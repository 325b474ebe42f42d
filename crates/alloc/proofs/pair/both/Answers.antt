-- both: both have room, so neither placing is refused.
use Rattle.alloc.proofs.Choosing.{chooses_tightest}
use Rattle.alloc.proofs.Pairs.{two_none, after_first, two_never, two_done}
use Rattle.alloc.proofs.pair.both.Goals as goal

pub returns-in_err-first : goal.returns-in_err-first
returns-in_err-first c = rw c.from_residual.ensures (two_none chooses_tightest c.requires c.in_err-first.ensures)

pub block-requires-2 : goal.block-requires-2
block-requires-2 c = (after_first chooses_tightest c.requires c.in_ok-first.ensures, c.requires.other)

pub returns-in_err-second : goal.returns-in_err-second
returns-in_err-second c = absurd (two_never chooses_tightest c.requires c.in_ok-first.ensures c.in_err-second.ensures)

pub returns : goal.returns
returns c = two_done chooses_tightest c.requires c.in_ok-first.ensures c.in_ok-second.ensures

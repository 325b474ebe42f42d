-- after: a character begins, or the byte is held to the range of the next follower.
use Rattle.std.proofs.Common.{arith}
use Rattle.path.proofs.Spelling.{begins, follows_low, follows_high, follows}
use Rattle.path.proofs.characters.after.Goals as goal
use Rattle.path.proofs.characters.after.Goals.{then-b-a-via-then-b-a, then-b-a-via-else-b-a+then-a-b}

pub returns-then-a-eq0 : goal.returns-then-a-eq0
returns-then-a-eq0 c = begins _ _ _ _ c.if-a-eq0.true _ c.begin.ensures

pub returns-then-b-a : goal.returns-then-b-a
returns-then-b-a c =
    elim c.then-b-a.branch [
      | then-b-a-via-then-b-a w ↦ follows_low (omega arith) w.if-b-a.true
      | then-b-a-via-else-b-a+then-a-b w ↦ follows_high (omega arith) w.if-b-a.false w.if-a-b.true
    ]

pub returns : goal.returns
returns c = follows (omega arith) c.requires c.if-b-a.false c.if-a-b.false

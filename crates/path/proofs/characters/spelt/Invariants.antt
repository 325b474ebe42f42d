-- spelt: the bytes passed are as they may be, and a tells what is still to come; in front nothing is.
use Prim.Native.Nat.{◌≤◌}
use Rattle.path.specs.Spelling.{spelt, passed}
use Rattle.path.specs.Walk.{Walk}
use Rattle.path.proofs.characters.spelt.Given as goal

abbrev pub invariant-loop-b : goal.invariant-loop-b
invariant-loop-b l = (0x80 ≤ l.a.low) × Walk l.b-items (spelt l.fn.name) (passed l.a.left l.a.low l.a.high) l.b-index

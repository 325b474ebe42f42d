-- own: the line is past the last, or it is stored.
use Rattle.listing.proofs.Storing.{stores_line, stores_past}
use native.Mathlib.Omega.{arith}
use Rattle.listing.proofs.walk.own.Goals as goal

pub returns-then-numbers-i : goal.returns-then-numbers-i
returns-then-numbers-i c = stores_past _ _ _ _ (omega arith)

pub returns : goal.returns
returns c = stores_line _ _ _ (omega arith) (omega arith) c.line.ensures c.put.ensures

-- stands: both refs are 0, or both name something.
use Rattle.tree.proofs.Rows.{stands_nameless}
use Rattle.tree.proofs.slots.stands.Goals as goal

pub returns-then-s-eq0 : goal.returns-then-s-eq0
returns-then-s-eq0 c = stands_nameless _ _ c.if-s-eq0.true

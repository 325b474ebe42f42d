-- tiled: its blocks tile it.
use Rattle.tree.proofs.Formed.{formed-tiled}
use Rattle.calls.proofs.check.WellFormed.tiled.Goals as goal

pub invariant_of-result : goal.invariant_of-result
invariant_of-result c = record { tiled = formed-tiled _ c.args.self.bytes c.args.self.formed }

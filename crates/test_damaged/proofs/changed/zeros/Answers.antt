-- As many as there are.
use Rattle.std.proofs.Common.{ℕ, sym}
use Rattle.std.proofs.lemmas.List.{length-replicate}
use Rattle.test_damaged.proofs.changed.zeros.Goals as goal

pub returns : goal.returns
returns c = sym (length-replicate {A = ℕ} 1048592 0)

-- equal: both taken, then by the names' data.
use Rattle.tree.proofs.Tests.{equal_free, equal-other_free, equal_named}
use Rattle.tree.proofs.names.equal.Goals as goal

pub returns-in_default : goal.returns-in_default
returns-in_default c = equal_free _ _ c.in_default.ensures

pub returns-in_default-name_at : goal.returns-in_default-name_at
returns-in_default-name_at c = equal-other_free _ _ c.in_default-name_at.ensures

pub returns : goal.returns
returns c = equal_named _ _ c.in-Some.ensures c.in-Some-name_at.ensures _ c.equal_data.ensures

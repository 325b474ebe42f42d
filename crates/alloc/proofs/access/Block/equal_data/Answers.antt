-- equal_data: the second block's data as a part of the image.
use Rattle.storage.specs.Bytes.{same}
use mathlib.Core.Path.{ap, ◌∙◌}
use Rattle.alloc.proofs.access.Block.equal_data.Goals as goal

pub returns : goal.returns
returns c = c.equals.ensures ∙ ap (same _) c.body.ensures

-- note_block: a directory, or what has no slots.
use Rattle.tree.proofs.Noting.{noted_none}
use Rattle.tree.proofs.naming.note_block.Goals as goal

pub returns-in_default : goal.returns-in_default
returns-in_default c = noted_none _ _ _ c.in_default.ensures

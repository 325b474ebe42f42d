-- fresh: an empty volume, the root placed first, its parent.
use Rattle.alloc.specs.Answers.{placed_at}
use Rattle.alloc.specs.Block.{SFde}
use Rattle.alloc.specs.Sound.{Object}
use Rattle.changes.proofs.Formatting.{directory-object, new_sound, root-done, root-fits, root_store}
use mathlib.Core.Path.{ap, sym, subst}
use Rattle.changes.proofs.format.fresh.Goals as goal

pub block-placed-requires : goal.block-placed-requires
block-placed-requires c = (
  new_sound c.requires c.empty.ensures c.directory_size.ensures,
  subst (Object SFde) (sym c.directory_size.ensures) (directory-object _ c.requires.least c.requires.most),
)

pub returns-in_default : goal.returns-in_default
returns-in_default c = absurd (root-fits c.requires c.empty.ensures c.directory_size.ensures c.block-placed.ensures (ap placed_at c.in_default.is))

pub write_ref-requires : goal.write_ref-requires
write_ref-requires c = root_store c.requires c.empty.ensures c.directory_size.ensures c.block-placed.ensures (ap placed_at c.in-Some.is)

pub returns : goal.returns
returns c = root-done c.requires c.empty.ensures c.directory_size.ensures c.block-placed.ensures (ap placed_at c.in-Some.is) c.write_ref.ensures

-- new: a cursor of Nones stands before the root's own line.
use Rattle.listing.proofs.Cursors.{from_start}
use Rattle.std.specs.Prelude.{None}
use lib.ListN.{replicate}
use mathlib.Core.Path.{◌∙◌, refl}
use Rattle.listing.proofs.seek.Lines.new.Goals as goal

pub returns-clause-left : goal.returns-clause-left
returns-clause-left c = c.from_cursor.ensures.left ∙ from_start _ (replicate 18 None) refl

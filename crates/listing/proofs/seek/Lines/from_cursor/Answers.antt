-- from_cursor: the root's lines from there on are the image's.
use Rattle.listing.proofs.Cursors.{from_root}
use Rattle.listing.proofs.seek.Lines.from_cursor.Goals as goal

pub returns-clause-left : goal.returns-clause-left
returns-clause-left c = from_root c.root.ensures _

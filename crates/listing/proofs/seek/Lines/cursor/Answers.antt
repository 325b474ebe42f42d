-- cursor: the root's lines from there on are the image's.
use Rattle.listing.proofs.Cursors.{from_node}
use Rattle.listing.proofs.seek.Lines.cursor.Goals as goal

pub returns : goal.returns
returns c = from_node _ c.args.self.top _

-- The lines that an iterator over them has left, and their image.
use Rattle.std.specs.Prelude.{ℕ, List}
use Rattle.listing.specs.declared.seek.Lines.{Lines}
use Rattle.listing.specs.Nodes.{lines_at_from}
use Rattle.history.specs.Listing.{Line}

abbrev pub lines_left : Lines → List Line
lines_left x = lines_at_from x.root.image.now x.root.node x.cursor

-- the image whose lines they are
abbrev pub image_of : Lines → List ℕ
image_of x = x.root.image.now

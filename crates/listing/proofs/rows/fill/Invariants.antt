-- fill: the lines so far are stored, and the others are ahead.
use Rattle.std.proofs.Common.{◌≡◌}
use Rattle.listing.proofs.Cursors.{Ahead}
use Rattle.listing.proofs.Stored.{filled}
use Rattle.listing.specs.Left.{lines_left}
use Rattle.listing.proofs.rows.fill.Given as goal

abbrev pub invariant-loop-line : goal.invariant-loop-line
invariant-loop-line l = record { ahead : Ahead l.formed.image.now (lines_left l.ahead) l.line-index; stored : l.line-items ≡ filled l.formed.image.now l.line-index l.initial.line-items }

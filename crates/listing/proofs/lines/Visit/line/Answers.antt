-- line: the kind that is read, and where the object stands.
use Rattle.calls.specs.Reading.{Kind}
use Rattle.history.specs.Listing.{line_of}
use mathlib.Core.Path.{ap}
use Rattle.listing.proofs.lines.Visit.line.Goals as goal

pub returns : goal.returns
unfolding line_of
returns c =
    let n = c.args.self.node in
    ap (λ (k : Kind). record { ref = n.at.0; parent = n.parent.0; name = n.name.0; depth = n.depth; kind = k }) c.kind_at-kind.ensures

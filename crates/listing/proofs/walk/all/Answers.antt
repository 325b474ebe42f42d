-- all: from the root.
use Rattle.listing.proofs.Few.{lines-few}
use Rattle.listing.specs.Numbers.{Stores}
use Rattle.history.specs.Listing.{Line}
use lib.ListN.{length}
use mathlib.Core.List.{List}
use mathlib.Core.Path.{ap, subst}
use native.Mathlib.Omega.{arith}
use Rattle.listing.proofs.walk.all.Goals as goal

pub object-requires : goal.object-requires
object-requires c = omega (arith, lines-few _ c.args.formed.bytes c.args.formed.formed, ap length c.root.ensures.all_lines)

pub returns : goal.returns
returns c = subst (λ (ls : List Line). Stores 0 ls c.args.numbers.now c.object.result c.object.new.numbers) c.root.ensures.all_lines c.object.ensures

-- root: its lines are those of the image.
use Rattle.calls.proofs.Stands.{root-object}
use Rattle.listing.proofs.Cursors.{is-root, root_at}
use Rattle.calls.specs.Answers.{ObjectAt}
use mathlib.Core.Path.{subst, sym}
use Prim.Native.Nat.{ℕ}
use Rattle.listing.proofs.lines.root.Goals as goal

pub invariant_of-result-clause-there : goal.invariant_of-result-clause-there
invariant_of-result-clause-there c = subst (λ (v : ℕ). ObjectAt c.args.formed.image.now v) (sym (root_at c.tiled.ensures c.root-at.ensures)) (root-object c.args.formed.bytes c.args.formed.formed)

pub returns : goal.returns
returns c = is-root (root_at c.tiled.ensures c.root-at.ensures)

-- keeps: a name by its bytes, a directory by its pairs.
use borrow.Author.Tests.{eqb-true, eqb-false}
use Rattle.tree.proofs.Rows.{slotless, no_slots}
use Rattle.tree.proofs.Tests.{names-name, names-directory, names-other, block-name, block_nameless}
use mathlib.Core.Path.{sym}
use native.Mathlib.Omega.{arith}
use Rattle.tree.proofs.names.keeps.Goals as goal

pub returns-then-is : goal.returns-then-is
returns-then-is c =
    let m = eqb-true _ _ (sym c.if-is.ensures) in
    names-name _ _ _ (block-name _ _ m) (no_slots _ _ (λ e. omega (arith, m, e))) _ c.valid.ensures

pub returns-in_default : goal.returns-in_default
returns-in_default c = names-other _ _ _ (block_nameless _ _ (eqb-false _ _ (sym c.if-is.ensures))) (slotless _ c.in_default.ensures)

pub returns : goal.returns
returns c =
    let d = c.in-Some.ensures in
    names-directory _ _ _ (block_nameless _ _ (eqb-false _ _ (sym c.if-is.ensures))) _ (rw (d.image, d.at) at c.all_distinct.ensures)

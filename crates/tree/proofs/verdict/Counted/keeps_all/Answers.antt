-- keeps_all: by the kind of the block.
use borrow.Author.Tests.{eqb-true, eqb-false}
use Rattle.tree.proofs.Joint.{kept-name, kept-file, kept-directory}
use Rattle.tree.proofs.Whole.{ready-naming, ready_slots}
use mathlib.Core.Path.{sym, ◌∙◌}
use Rattle.tree.proofs.verdict.Counted.keeps_all.Goals as goal

pub returns-then-is : goal.returns-then-is
returns-then-is c = λ t.
    let o = rw c.requires.0 at c.requires.1 in
    kept-name _ _ _ o.used
    (sym c.if-not-keeps.false ∙ c.keeps.ensures ∙ ready-naming c.args.self.ready o)
    (eqb-true _ _ (rw c.requires.0 at (sym c.if-is.ensures)))
    (rw c.requires.0 at (sym t ∙ c.valid.ensures))

pub returns-then-is-2 : goal.returns-then-is-2
returns-then-is-2 c = λ t.
    let o = rw c.requires.0 at c.requires.1 in
    kept-file _ _ _ o.used
    (sym c.if-not-keeps.false ∙ c.keeps.ensures ∙ ready-naming c.args.self.ready o)
    (eqb-true _ _ (rw c.requires.0 at (sym c.if-is-2.ensures)))
    (rw c.requires.0 at (sym t ∙ c.keeps-then-is-2.ensures))

pub keeps-requires-3 : goal.keeps-requires-3
keeps-requires-3 c =
    let o = rw c.requires.0 at c.requires.1 in
    rw c.requires.0 (c.args.self.ready.marked.tiled, ready_slots c.args.self.ready o)

pub returns : goal.returns
returns c = λ t.
    let o = rw c.requires.0 at c.requires.1 in
    kept-directory _ _ _ o.used
    (sym c.if-not-keeps.false ∙ c.keeps.ensures ∙ ready-naming c.args.self.ready o)
    (eqb-false _ _ (rw c.requires.0 at (sym c.if-is-2.ensures)))
    (sym c.if-not-keeps-2.false ∙ c.keeps-2.ensures)
    (rw c.requires.0 at (sym t ∙ c.keeps-3.ensures))

-- parent_of: by the kind of what begins there.
use Rattle.tree.proofs.Tests.{directory-there}
use Rattle.tree.specs.Fields.{parent}
use mathlib.Core.Path.{sym, ap, ◌∙◌}
use Rattle.tree.proofs.fields.parent_of.Goals as goal

pub returns-then-not-is : goal.returns-then-not-is
returns-then-not-is c = sym c.is.ensures ∙ c.if-not-is.true

pub invariant_of-directory : goal.invariant_of-directory
invariant_of-directory c = record { there = (directory-there c.args.marks.marked.tiled (sym c.is.ensures ∙ c.if-not-is.false)).0 }

pub returns : goal.returns
returns c =
    let d = sym c.is.ensures ∙ c.if-not-is.false in
    record { directory = d; parent = c.parent.ensures ∙ ap parent (directory-there c.args.marks.marked.tiled d).1 }

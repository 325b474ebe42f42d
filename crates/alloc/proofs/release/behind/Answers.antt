-- behind: by whether the next free ref is that one.

use borrow.Author.Tests.{eqb-false, not-true}
use mathlib.Core.Path.{sym, ◌∙◌}
use Rattle.alloc.proofs.release.behind.Goals as goal

pub returns-then-ne : goal.returns-then-ne
returns-then-ne c = eqb-false _ _ (not-true _ (sym c.ne.ensures ∙ c.if-ne.true))

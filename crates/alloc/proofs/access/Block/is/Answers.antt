-- is: what its header says.
use Rattle.std.proofs.Common.{eqb, ℕ, List, Bor}
use mathlib.Core.Path.{ap₂, ◌∙◌}
use Rattle.storage.specs.declared.Ref.{Ref}
use Rattle.alloc.specs.Block.{magic_at}
use Rattle.alloc.specs.Answers.{kind_magic}
use Rattle.alloc.proofs.access.Block.is.Goals as goal

pub returns : goal.returns
returns c = c.is.ensures ∙ ap₂ (λ (i : Bor (List ℕ)) (r : Ref). eqb (magic_at i.now r.0) (kind_magic c.args.kind)) c.header.ensures.0 c.header.ensures.1

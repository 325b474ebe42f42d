-- file: what is reached is an object; a directory is refused.
use Rattle.calls.proofs.Stands.{bytes_of}
use Rattle.calls.proofs.Steps.{file-directory, start-object}
use Rattle.calls.proofs.walk.file.Goals as goal

pub invariant_of-object-clause-there : goal.invariant_of-object-clause-there
invariant_of-object-clause-there c = start-object (bytes_of _ c.type_inv.image) _ _ _ c.in_ok-at.ensures

pub returns-in_default : goal.returns-in_default
returns-in_default c = file-directory _ _ c.in_ok-at.ensures c.in_default.ensures

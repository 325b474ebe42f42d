-- read: by how it begins.
use Rattle.calls.proofs.Outcomes.{read-refused, read-file}
use Rattle.calls.proofs.Stands.{bytes_of}
use Rattle.calls.proofs.Steps.{file-object}
use Rattle.calls.proofs.Told.{err_is}
use Rattle.calls.proofs.reading.read.Goals as goal

pub returns-in_err-at : goal.returns-in_err-at
returns-in_err-at c = rw (err_is _ c.in_err-at.field-0.0 c.from_residual.ensures.1) (read-refused _ _ _ _ _ c.in_err-at.ensures)

pub invariant_of-copy_from-clause-there : goal.invariant_of-copy_from-clause-there
invariant_of-copy_from-clause-there c = file-object (bytes_of _ c.type_inv.image) _ _ _ c.in_ok-at.ensures

pub returns : goal.returns
returns c = read-file _ _ _ _ _ c.in_ok-at.ensures c.copy_from.ensures

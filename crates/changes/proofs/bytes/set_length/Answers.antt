-- set_length: by how it begins.
use Rattle.std.proofs.Common.{rules}
use Rattle.calls.proofs.Steps.{file-object}
use Rattle.calls.proofs.Told.{err_is}
use Rattle.changes.proofs.Storing.{file-reached, file-refused, set-length-is}
use Rattle.changes.proofs.bytes.set_length.Goals as goal

pub returns-in_err-r : goal.returns-in_err-r
returns-in_err-r c = rw (err_is _ c.in_err-r.field-0.0 c.from_residual.ensures.1) (set-length-is _ _ _ (file-refused _ _ _ c.in_err-r.ensures))

pub set_length_of-requires : goal.set_length_of-requires
set_length_of-requires c = file-object (search rules) _ _ _ c.in_ok-r.ensures

pub returns : goal.returns
returns c = set-length-is _ _ _ (file-reached _ _ _ c.in_ok-r.ensures c.set_length_of.ensures)

-- write: by how it begins.
use Rattle.std.proofs.Common.{rules}
use Rattle.calls.proofs.Steps.{file-object}
use Rattle.calls.proofs.Told.{err_is}
use Rattle.changes.proofs.Storing.{file-reached, file-refused, write-is}
use Rattle.changes.proofs.bytes.write.Goals as goal

pub returns-in_err-r : goal.returns-in_err-r
returns-in_err-r c = rw (err_is _ c.in_err-r.field-0.0 c.from_residual.ensures.1) (write-is _ _ _ _ (file-refused _ _ _ c.in_err-r.ensures))

pub write_to-requires : goal.write_to-requires
write_to-requires c = file-object (search rules) _ _ _ c.in_ok-r.ensures

pub returns : goal.returns
returns c = write-is _ _ _ _ (file-reached _ _ _ c.in_ok-r.ensures c.write_to.ensures)

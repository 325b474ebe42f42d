-- remove: by how it begins.
use Rattle.calls.proofs.Steps.{reached-above}
use Rattle.calls.proofs.Told.{err_is}
use Rattle.changes.proofs.Removing.{remove-reached, remove-refused}
use Rattle.changes.proofs.remove.remove.Goals as goal

pub returns-in_err-d : goal.returns-in_err-d
returns-in_err-d c = rw (err_is _ c.in_err-d.field-0.0 c.from_residual.ensures.1) (remove-refused _ _ _ c.in_err-d.ensures)

pub remove_in-requires : goal.remove_in-requires
remove_in-requires c = (reached-above _ _ _ _ _ c.in_ok-d.ensures).1.directory

pub returns : goal.returns
returns c = remove-reached _ _ _ c.in_ok-d.ensures _ c.last_name.ensures _ _ c.remove_in.ensures

-- read_point: by how it begins.
use Rattle.calls.proofs.Outcomes.{point-refused, point-file, reached-number}
use Rattle.calls.proofs.Stands.{bytes_of}
use Rattle.calls.proofs.Steps.{file-object}
use Rattle.calls.proofs.Told.{err_is}
use Rattle.calls.proofs.reading.read_point.Goals as goal

pub returns-in_err-at : goal.returns-in_err-at
returns-in_err-at c = rw (err_is _ c.in_err-at.field-0.0 c.from_residual.ensures.1) (point-refused _ _ _ _ c.in_err-at.ensures)

pub invariant_of-point_at-clause-there : goal.invariant_of-point_at-clause-there
invariant_of-point_at-clause-there c = file-object (bytes_of _ c.type_inv.image) _ _ _ c.in_ok-at.ensures

pub point_at-requires : goal.point_at-requires
point_at-requires c = reached-number _ _ _ _ c.in_ok-at.ensures

pub returns : goal.returns
returns c = point-file _ _ _ _ c.in_ok-at.ensures c.point_at.ensures

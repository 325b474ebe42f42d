-- make: by how it begins.
use Rattle.calls.proofs.Steps.{reached-above}
use Rattle.calls.proofs.Told.{err_is}
use Rattle.changes.proofs.Making.{last_named, make-reached, make-refused}
use Rattle.changes.specs.Answers.{new_of}
use mathlib.Core.Path.{◌∙◌, sym}
use Rattle.changes.proofs.make.make.Goals as goal

pub returns-in_err-d : goal.returns-in_err-d
returns-in_err-d c =
    rw (err_is _ c.in_err-d.field-0.0 c.from_residual.ensures.1) (make-refused _ _ (new_of c.args.new) c.is_allowed.ensures _ c.in_err-d.ensures)

pub invariant_of-make_in : goal.invariant_of-make_in
invariant_of-make_in c = record { allowed = sym c.is_allowed.ensures ∙ (reached-above _ _ _ _ _ c.in_ok-d.ensures).0 }

pub make_in-requires : goal.make_in-requires
make_in-requires c =
    let x = (reached-above _ _ _ _ _ c.in_ok-d.ensures).1 in
    (x.directory, last_named _ _ x.valid x.some_name c.last_name.ensures)

pub returns : goal.returns
returns c = make-reached _ _ (new_of c.args.new) c.is_allowed.ensures _ c.in_ok-d.ensures _ c.last_name.ensures _ _ _ c.make_in.ensures

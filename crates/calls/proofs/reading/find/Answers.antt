-- find: by how it begins.
use Rattle.calls.proofs.Outcomes.{find-so}
use Rattle.calls.proofs.Stands.{bytes_of}
use Rattle.calls.proofs.Steps.{start-object}
use Rattle.calls.specs.Reading.{Found, Kind}
use Rattle.calls.specs.Refusal.{Accepted}
use mathlib.Core.Path.{◌∙◌, ap}
use Rattle.calls.proofs.reading.find.Goals as goal

pub invariant_of-kind_at-clause-there : goal.invariant_of-kind_at-clause-there
invariant_of-kind_at-clause-there c = start-object (bytes_of _ c.type_inv.image) _ _ _ c.in-Ok.ensures

pub returns-in-Err : goal.returns-in-Err
returns-in-Err c = find-so _ _ _ c.in-Err.ensures

pub returns-in-Ok : goal.returns-in-Ok
returns-in-Ok c =
    ap (λ (k : Kind). let f : Found = record { refusal = Accepted; at = c.in-Ok.at.0; kind = k } in f) c.kind_at.ensures ∙ find-so _ _ _ c.in-Ok.ensures

-- block: the tightest gap, then the stores.
use Rattle.alloc.proofs.Stores.{found-gap, places_none, places_some, found-enough}
use mathlib.Core.Path.{refl}
use Rattle.alloc.proofs.place.block.Goals as goal

pub returns-in_err-gap : goal.returns-in_err-gap
returns-in_err-gap c = rw c.from_residual.ensures (places_none _ _ (found-gap _ c.in_err-gap.ensures c.units_for.ensures refl))

pub carve-requires : goal.carve-requires
carve-requires c =
    let f = found-gap _ c.in_ok-gap.ensures c.units_for.ensures refl in
    record {
      sound = c.requires.0;
      object = c.requires.1;
      stands = f.stands;
      enough = found-enough f;
    }

pub returns : goal.returns
returns c = places_some _ _ (found-gap _ c.in_ok-gap.ensures c.units_for.ensures refl) c.carve.ensures

-- place: the decision, then the order of document 01.
use Rattle.alloc.proofs.Choosing.{chooses_tightest}
use Rattle.alloc.proofs.Pairs.{pair_refused, larger_fits, name-fits, larger_done, name_done}
use Rattle.alloc.proofs.pair.place.Goals as goal

pub returns-then-not-fits : goal.returns-then-not-fits
returns-then-not-fits c = pair_refused chooses_tightest c.fits.ensures c.units_for-a.ensures c.units_for-b.ensures
    c.if-not-fits.true

pub both-requires : goal.both-requires
both-requires c = larger_fits chooses_tightest c.requires.0 c.requires.1 c.requires.2 c.fits.ensures c.units_for-a.ensures c.units_for-b.ensures
    c.if-not-fits.false c.if-a-b.true

pub returns-in_err-object : goal.returns-in_err-object
returns-in_err-object c = rw c.from_residual.ensures (larger_done chooses_tightest c.requires.0 c.requires.1 c.requires.2 c.fits.ensures c.units_for-a.ensures c.units_for-b.ensures
    c.if-not-fits.false c.if-a-b.true c.in_err-object.ensures)

pub returns-then-a-b : goal.returns-then-a-b
returns-then-a-b c = larger_done chooses_tightest c.requires.0 c.requires.1 c.requires.2 c.fits.ensures c.units_for-a.ensures c.units_for-b.ensures
    c.if-not-fits.false c.if-a-b.true c.in_ok-object.ensures

pub both-requires-2 : goal.both-requires-2
both-requires-2 c = name-fits chooses_tightest c.requires.0 c.requires.1 c.requires.2 c.fits.ensures c.units_for-a.ensures c.units_for-b.ensures
    c.if-not-fits.false c.if-a-b.false

pub returns-in_err-name : goal.returns-in_err-name
returns-in_err-name c = rw c.from_residual-in_err-name.ensures (name_done chooses_tightest c.requires.0 c.requires.1 c.requires.2 c.fits.ensures c.units_for-a.ensures c.units_for-b.ensures
    c.if-not-fits.false c.if-a-b.false c.in_err-name.ensures)

pub returns : goal.returns
returns c = name_done chooses_tightest c.requires.0 c.requires.1 c.requires.2 c.fits.ensures c.units_for-a.ensures c.units_for-b.ensures
    c.if-not-fits.false c.if-a-b.false c.in_ok-name.ensures

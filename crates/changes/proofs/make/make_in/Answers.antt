-- make_in: 6, 7, or the lowest empty slot filled.
use Rattle.calls.proofs.Lowest.{found-slot}
use Rattle.changes.proofs.Making.{make-filled, make_full, make-there, none_there, some_there}
use mathlib.Core.Path.{sym}
use Rattle.changes.proofs.make.make_in.Goals as goal

pub returns-then-is_some : goal.returns-then-is_some
returns-then-is_some c = make-there _ _ _ _ (some_there c.with_name.result (sym c.if-is_some.ensures) c.with_name.ensures).1

pub returns-in_default : goal.returns-in_default
returns-in_default c = make_full _ _ _ _ (none_there c.with_name.result (sym c.if-is_some.ensures) c.with_name.ensures) c.in_default.ensures

pub fill-requires : goal.fill-requires
fill-requires c =
    record { directory = c.requires.0; slot = (found-slot _ _ _ (sym c.in-Some.ensures)).0; name = c.requires.1 }

pub returns : goal.returns
returns c = make-filled _ _ _ _ (none_there c.with_name.result (sym c.if-is_some.ensures) c.with_name.ensures) c.in-Some.ensures _ _ _ c.fill.ensures

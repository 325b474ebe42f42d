-- fill: placed, and filled store by store.
use Rattle.std.proofs.Common.{rules}
use Rattle.alloc.specs.Answers.{pair_at}
use Rattle.changes.proofs.Making.{fill_done, fill_name, fill_none, fill_object, fill_slot_lem, name-object, new_object, object-told, vacant-sound}
use mathlib.Core.Path.{ap}
use Rattle.changes.proofs.make.fill.Goals as goal

pub place-placed-requires : goal.place-placed-requires
place-placed-requires c =
    (vacant-sound (search rules) c.requires, name-object c.requires.name, object-told c.kind.ensures c.size.ensures (new_object _ c.args.what.allowed))

pub returns-in_default : goal.returns-in_default
returns-in_default c = fill_none (search rules) c.requires _ c.kind.ensures c.size.ensures (ap pair_at c.in_default.is) c.place-placed.ensures

pub copy_in-requires : goal.copy_in-requires
copy_in-requires c =
    fill_name (search rules) c.requires _ c.args.what.allowed c.kind.ensures c.size.ensures (ap pair_at c.in-Some.is) c.place-placed.ensures

pub write_parent-requires : goal.write_parent-requires
write_parent-requires c =
    fill_object (search rules) c.requires _ c.args.what.allowed c.kind.ensures c.size.ensures (ap pair_at c.in-Some.is) c.place-placed.ensures c.copy_in.ensures

pub set-requires : goal.set-requires
set-requires c =
    fill_slot_lem (search rules) c.requires _ c.args.what.allowed c.kind.ensures c.size.ensures (ap pair_at c.in-Some.is) c.place-placed.ensures c.copy_in.ensures c.write_parent.ensures

pub returns : goal.returns
returns c =
    fill_done (search rules) c.requires _ c.args.what.allowed c.kind.ensures c.size.ensures (ap pair_at c.in-Some.is) c.place-placed.ensures c.copy_in.ensures c.write_parent.ensures c.set.ensures

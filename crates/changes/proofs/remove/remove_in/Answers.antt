-- remove_in: 3, 9, or cleared.
use Rattle.std.proofs.Common.{rules}
use Rattle.changes.proofs.Removing.{found-taken, remove_cleared, remove-held, remove-missing, taken-object}
use Rattle.tree.specs.Fields.{Slot}
use mathlib.Core.Path.{ap}
use Rattle.changes.proofs.remove.remove_in.Goals as goal

pub returns-in_default : goal.returns-in_default
returns-in_default c = remove-missing _ _ _ c.in_default.ensures

pub slot_at-requires : goal.slot_at-requires
slot_at-requires c = (found-taken _ c.requires c.in-Some.ensures).slot

pub invariant_of-holds_some-clause-there : goal.invariant_of-holds_some-clause-there
invariant_of-holds_some-clause-there c = taken-object (search rules) (found-taken _ c.requires c.in-Some.ensures) c.slot_at.ensures

pub returns-then-holds_some : goal.returns-then-holds_some
returns-then-holds_some c = remove-held _ _ _ _ c.in-Some.ensures (ap (λ (y : Slot). y.1) c.slot_at.ensures) c.holds_some.ensures c.if-holds_some.true

pub clear-requires : goal.clear-requires
clear-requires c = found-taken _ c.requires c.in-Some.ensures

pub returns : goal.returns
returns c = remove_cleared _ _ _ _ c.in-Some.ensures (ap (λ (y : Slot). y.1) c.slot_at.ensures) c.holds_some.ensures c.if-holds_some.false _ c.clear.ensures

-- child: nothing is named, or the object that is read.
use Rattle.listing.proofs.Held.{child-is, child-object, slot-inside, slot-low}
use native.Mathlib.Omega.{arith}
use mathlib.Core.Path.{◌∙◌, ap, sym}
use Rattle.tree.specs.Fields.{taken}
use Rattle.listing.proofs.lines.Visit.child.Goals as goal

pub invariant_of-slot_at-clause-there : goal.invariant_of-slot_at-clause-there
invariant_of-slot_at-clause-there c = (slot-inside c.args.self.bytes c.args.self.node c.args.self.there _ c.requires).0

pub slot_at-slot-requires : goal.slot_at-slot-requires
slot_at-slot-requires c = (slot-inside c.args.self.bytes c.args.self.node c.args.self.there _ c.requires).1

pub returns-then-not-is_taken : goal.returns-then-not-is_taken
returns-then-not-is_taken c = ap taken (sym c.slot_at-slot.ensures) ∙ sym c.is_taken.ensures ∙ c.if-not-is_taken.true

pub invariant_of-result-clause-there : goal.invariant_of-result-clause-there
invariant_of-result-clause-there c = child-object c.args.self.bytes c.args.self.node c.args.self.there _ c.requires c.slot_at-slot.ensures (sym c.is_taken.ensures ∙ c.if-not-is_taken.false)

pub returns : goal.returns
returns c = child-is c.args.self.bytes c.args.self.node c.args.self.there _ c.requires c.slot_at-slot.ensures (sym c.is_taken.ensures ∙ c.if-not-is_taken.false)

pub overflow_add-child : goal.overflow_add-child
overflow_add-child c = omega (arith, slot-low c.args.self.bytes c.args.self.node c.args.self.there _ c.requires)

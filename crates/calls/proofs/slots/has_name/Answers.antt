-- has_name: an empty slot has none; a taken one by its name block.
use Rattle.calls.proofs.Steps.{named-empty, named-taken, name-standing}
use mathlib.Core.Path.{◌∙◌, sym}
use Rattle.calls.proofs.slots.has_name.Goals as goal

pub returns-then-not-is_taken : goal.returns-then-not-is_taken
returns-then-not-is_taken c =
    named-empty c.args.directory.bytes c.args.directory.there c.requires c.slot_at-slot.ensures _ (sym c.is_taken.ensures ∙ c.if-not-is_taken.true)

pub invariant_of-block : goal.invariant_of-block
invariant_of-block c = record {
  standing = name-standing c.args.directory.bytes c.args.directory.there c.requires c.slot_at-slot.ensures (sym c.is_taken.ensures ∙ c.if-not-is_taken.false);
}

pub returns : goal.returns
returns c =
    named-taken c.args.directory.bytes c.args.directory.there c.requires c.slot_at-slot.ensures (sym c.is_taken.ensures ∙ c.if-not-is_taken.false) _ _
    c.equals.ensures

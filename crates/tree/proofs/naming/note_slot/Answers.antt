-- note_slot: an empty slot names nothing; a taken one its name and its object.
use Rattle.tree.proofs.Noting.{noted-empty, refs-inside, noted-taken}
use lib.ListN.{length, length-set}
use mathlib.Core.Path.{ap, sym, ◌∙◌}
use native.Mathlib.Omega.{arith}
use Rattle.tree.proofs.naming.note_slot.Goals as goal

pub returns-then-not-is_taken : goal.returns-then-not-is_taken
returns-then-not-is_taken c = noted-empty c.requires.0 c.args.d.sound c.requires.1 c.slot_at-s.ensures (sym c.is_taken.ensures ∙ c.if-not-is_taken.true)

pub count-requires : goal.count-requires
count-requires c = (refs-inside c.requires.0 c.args.d.sound c.requires.1 c.slot_at-s.ensures (sym c.is_taken.ensures ∙ c.if-not-is_taken.false)).0

pub count-requires-2 : goal.count-requires-2
count-requires-2 c =
    let inside = refs-inside c.requires.0 c.args.d.sound c.requires.1 c.slot_at-s.ensures (sym c.is_taken.ensures ∙ c.if-not-is_taken.false) in
    omega (arith, simp length-set at (ap length c.count.ensures), inside.1)

pub returns : goal.returns
returns c =
    noted-taken c.requires.0 c.args.d.sound c.requires.1 c.slot_at-s.ensures (sym c.is_taken.ensures ∙ c.if-not-is_taken.false)
    c.may_name-right.ensures c.count.ensures c.count-2.ensures

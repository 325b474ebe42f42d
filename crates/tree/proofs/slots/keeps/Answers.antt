-- keeps: what is no directory has no slots.
use Rattle.tree.proofs.Rows.{slotless, stood_on, stood_out, stood_end, left-start, directory-is}
use Rattle.tree.specs.Rules.{slot_stands, slots_stand}
use mathlib.Core.Path.{refl, sym, ap, ◌∙◌}
use native.Mathlib.Omega.{arith}
use Rattle.tree.proofs.slots.keeps.Goals as goal

pub returns-in_default : goal.returns-in_default
unfolding slots_stand
returns-in_default c = sym (ap (slots_stand _) (slotless _ c.in_default.ensures))

pub returns-then-not-stands : goal.returns-then-not-stands
returns-then-not-stands c =
    let d = c.in-Some.ensures in
    rw (d.image, d.at) at
    (stood_out c.loop-i.invariant (omega (arith, c.slot_count-i-end.ensures)) (ap (slot_stands _) (sym c.slot_at.ensures) ∙ sym c.if-not-stands.ensures)
    ∙ ap (slots_stand _) (sym (left-start _ (directory-is c.in-Some.directory.there))))

pub loop-i-init : goal.loop-i-init
loop-i-init c = record { so_far = refl }

pub loop-i-preserved : goal.loop-i-preserved
loop-i-preserved c =
    stood_on c.loop-i.invariant (omega (arith, c.slot_count-i-end.ensures)) (ap (slot_stands _) (sym c.slot_at.ensures) ∙ sym c.if-not-stands.ensures)

pub returns : goal.returns
returns c =
    let d = c.in-Some.ensures in
    rw (d.image, d.at) at
    (stood_end c.loop-i.invariant (omega (arith, c.slot_count-i-end.ensures)) ∙ ap (slots_stand _) (sym (left-start _ (directory-is c.in-Some.directory.there))))

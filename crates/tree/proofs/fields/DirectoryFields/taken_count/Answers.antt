use Rattle.tree.proofs.Rows.{counting_on, counting_end, taken-counted, left-start, directory-is}
use Rattle.tree.specs.Fields.{taken, taken_count}
use mathlib.Core.Path.{sym, ap, ◌∙◌}
use native.Mathlib.Omega.{arith}
use Rattle.tree.proofs.fields.DirectoryFields.taken_count.Goals as goal

pub loop-i-preserved : goal.loop-i-preserved
loop-i-preserved c =
    counting_on c.loop-i.invariant (omega (arith, c.slot_count-n.ensures)) _ _ (c.is_taken.ensures ∙ ap taken c.slot_at.ensures) c.from-count.ensures

pub returns : goal.returns
returns c =
    counting_end c.loop-i.invariant (omega (arith, c.slot_count-n.ensures))
    ∙ sym (taken-counted _)
    ∙ ap taken_count (sym (left-start _ (directory-is c.args.self.there)))

-- sffs1_list: by the answer.
use Rattle.calls.proofs.Checking.{never_accepted}
use Rattle.calls.specs.Answers.{outcome_of}
use Rattle.listing.proofs.Call.{handed}
use Rattle.sffs1.proofs.Listed.{listed_all, listed_none}
use mathlib.Core.Path.{◌∙◌, ap, sym}
use Rattle.sffs1.proofs.sffs1_list.Goals as goal
use Rattle.sffs1.proofs.sffs1_list.Goals.{in-Ok, in_default}

pub returns : goal.returns
returns c =
    let a = c.count-listed.ensures in
    elim c.match-listed.branch [
      | in-Ok w ↦ listed_all a.answers c.tell.ensures (ap outcome_of w.in-Ok.is) (handed w.in-Ok.is a.same_image) w.numbers-is w.all.ensures
      | in_default w ↦ listed_none a.answers c.tell.ensures (λ z. never_accepted _ (ap outcome_of (sym w.in_default.is) ∙ z)) w.numbers-is
    ]

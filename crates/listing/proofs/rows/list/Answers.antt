-- list: where the answer is accepted its lines fit, and are filled.
use Rattle.calls.proofs.Checking.{never_accepted}
use Rattle.calls.specs.Answers.{outcome_of}
use Rattle.history.specs.Listing.{lines_of}
use Rattle.listing.proofs.Call.{all_fit, handed, lists_all, lists_by, lists_none, outcome_and}
use lib.ListN.{length}
use Rattle.listing.specs.Answers.{lines_to}
use Rattle.listing.specs.declared.lines.Line.{Line}
use mathlib.Core.List.{List, ◌++◌}
use mathlib.Core.Path.{◌∙◌, ap, sym}
use native.Mathlib.Omega.{arith}
use Prim.Native.Nat.{ℕ}
use Rattle.listing.proofs.rows.list.Goals as goal
use Rattle.listing.proofs.rows.list.Goals.{in-Ok, in_default}

pub split_at_mut-told-requires : goal.split_at_mut-told-requires
split_at_mut-told-requires c = let f = all_fit c.count-count.ensures.answers (ap outcome_of c.in-Ok.is) in omega (arith, f.1, f.2)

pub fill-requires : goal.fill-requires
fill-requires c =
    let f = all_fit c.count-count.ensures.answers (ap outcome_of c.in-Ok.is) in
    let k = ap (λ (v : List ℕ). length (lines_of v)) (handed c.in-Ok.is c.count-count.ensures.same_image) in
    omega (arith, f.1, c.split_at_mut-told.ensures.front_len, k)

pub returns : goal.returns
returns c =
    let a = c.count-count.ensures in
    let o = ap outcome_of c.and.ensures ∙ outcome_and c.count-count.result.outcome _ in
    elim c.match-outcome.branch [
      | in-Ok w ↦
          let p = w.split_at_mut-told.ensures in
          lists_by o (w.lines-is ∙ ap (λ (v : List Line). w.fill.new.lines ++ v) p.back)
          (lists_all _ _ a.answers (ap outcome_of w.in-Ok.is) (handed w.in-Ok.is a.same_image) (w.fill.ensures ∙ ap (lines_to w.in-Ok.formed.image.now) p.front_len))
      | in_default w ↦ lists_by o w.lines-is (lists_none _ _ a.answers (λ z. never_accepted _ (ap outcome_of (sym w.in_default.is) ∙ z)))
    ]

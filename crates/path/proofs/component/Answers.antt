-- component: the part with its number.
use Rattle.std.proofs.Common.{rules, tests, arith, ◌∙◌, sym, ap, get_or, [], List, ℕ}
use Rattle.std.proofs.lemmas.Iterator.Consumers.{nth_from_yields_List}
use Rattle.path.proofs.Parts.{components_none, splits_components, nth-or}
use Rattle.path.proofs.component.Goals as goal

pub returns-then-path-lt2 : goal.returns-then-path-lt2
returns-then-path-lt2 c = ap (λ (ws : List (List ℕ)). get_or ws c.args.i []) (sym (components_none _ (omega arith)))

pub returns : goal.returns
returns c =
    let nth =
    nth_from_yields_List c.nth.result c.nth.new.self c.args.i c.nth.ensures.ran
    (splits_components _ (omega arith) c.split.ensures.rest c.split.ensures.done c.split.ensures.closure (λ x b q k. search (rules, tests))) in
    ap (λ x. x.now) c.unwrap_or.ensures
    ∙ nth-or _ c.args.i c.nth.result _ nth

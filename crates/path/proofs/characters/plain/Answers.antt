-- plain: the bytes before the first that does not stand alone.
use Rattle.std.proofs.Common.{rules, tests, ◌≡◌, ◌∙◌, ap, length}
use Rattle.std.specs.Option.{unwrap_or}
use Rattle.std.specs.List.{position_or_len}
use Rattle.std.proofs.lemmas.Iterator.{YieldsList-from_slice}
use Rattle.std.proofs.lemmas.Iterator.Search.{position_from_yields_List}
use Rattle.path.proofs.Spelling.{other, plain_walk, position-or}
use Rattle.path.proofs.characters.plain.Goals as goal

pub returns : goal.returns
returns c =
    let s = c.args.name.now in
    let p = position_from_yields_List other _ _ c.position.result c.position.ensures.ran (YieldsList-from_slice s cc) (λ x b q k. search (rules, tests)) in
    let e : c.unwrap_or.result ≡ position_or_len other s =
    c.unwrap_or.ensures ∙ ap (λ o. unwrap_or o (length s)) p ∙ position-or (length s) _ (plain_walk s).inside in
    rw e (plain_walk s)

-- valid_path: the first byte, how many components there are, and each of them.
use Rattle.std.proofs.Common.{rules, tests, arith, ◌∙◌, sym, ap}
use borrow.Author.Tests.{lt-ltb}
use Rattle.std.proofs.lemmas.Iterator.Search.{all_from_yields_List}
use Rattle.path.specs.Name.{valid_name}
use Rattle.path.specs.Path.{all_valid}
use Rattle.path.proofs.Parts.{components_none, splits_components}
use Rattle.path.proofs.Valid.{path_empty, path-other, path-long, path_names, all-names}
use Rattle.path.proofs.valid_path.Goals as goal

pub returns-then-is_empty : goal.returns-then-is_empty
returns-then-is_empty c = path_empty _ (search rules)

pub returns-then-path-ne47 : goal.returns-then-path-ne47
returns-then-path-ne47 c = path-other _ (search rules) c.if-path-ne47.true

pub returns-then-n-gt16 : goal.returns-then-n-gt16
returns-then-n-gt16 c = path-long _ (search rules) c.if-path-ne47.false (omega arith)

pub returns-then-path-lt2 : goal.returns-then-path-lt2
unfolding all_valid
returns-then-path-lt2 c =
    let p = c.args.path.now in
    lt-ltb _ 2 (omega arith) ∙ sym (path_names p (search rules) c.if-path-ne47.false (omega arith) ∙ ap all_valid (components_none p (omega arith)))

pub returns-else-path-lt2 : goal.returns-else-path-lt2
returns-else-path-lt2 c =
    all_from_yields_List valid_name _ _ _ c.all.ensures.ran
    (splits_components _ (omega arith) c.split.ensures.rest c.split.ensures.done c.split.ensures.closure (λ x b q k. search (rules, tests)))
    (λ x b q k. search (rules, tests))
    ∙ all-names _
    ∙ sym (path_names _ (omega arith) c.if-path-ne47.false (omega arith))

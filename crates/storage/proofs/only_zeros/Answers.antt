-- only_zeros: the chunks of eight bytes, and the bytes behind them.
use Rattle.std.proofs.Common.{rules, tests, sym, ◌∙◌, ◌*◌, ◌/◌, length, drop, true, nat_eq}
use Rattle.std.specs.Simd.{first_chunks}
use Rattle.std.proofs.lemmas.Iterator.{YieldsList-from_slice}
use Rattle.std.proofs.lemmas.Iterator.Search.{all_from_yields_List}
use Rattle.storage.proofs.Compare.{eight_zeros, chunks-all}
use Rattle.storage.proofs.only_zeros.Goals as goal

pub returns-then-all : goal.returns-then-all
returns-then-all c =
    let s = c.args.bytes.now in
    let words = all_from_yields_List eight_zeros _ _ _ c.all.ensures.ran (YieldsList-from_slice (first_chunks 8 (length s / 8) s) cc) (λ x b q k. search (rules, tests)) in
    all_from_yields_List (λ x. nat_eq x 0) _ _ _ c.all-then-all.ensures.ran (YieldsList-from_slice (drop (length s / 8 * 8) s) cc) (λ x b q k. search (rules, tests))
    ∙ chunks-all s true (sym c.if-all.true ∙ words)

pub returns-else-all : goal.returns-else-all
returns-else-all c =
    let s = c.args.bytes.now in
    let words = all_from_yields_List eight_zeros _ _ _ c.all.ensures.ran (YieldsList-from_slice (first_chunks 8 (length s / 8) s) cc) (λ x b q k. search (rules, tests)) in
    c.if-all.false ∙ chunks-all s _ (sym c.if-all.false ∙ words)

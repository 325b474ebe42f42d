-- with_name: slot after slot.
use Rattle.std.proofs.Common.{rules}
use Rattle.std.proofs.lemmas.Iterator.{serves_from_Range}
use Rattle.calls.proofs.Lowest.{lowest_in_range, slot_in_range}
use mathlib.Core.Path.{refl}
use Rattle.calls.proofs.slots.with_name.Goals as goal

pub find-requires-clause-callable : goal.find-requires-clause-callable
find-requires-clause-callable c =
    serves_from_Range (λ x q k. search rules) (λ x a l. let k = slot_in_range c.slot_count-count.ensures l in search (rules, k))

pub returns : goal.returns
returns c = lowest_in_range _ _ c.args.directory.there.kind c.slot_count-count.ensures _ _ c.find.ensures.ran (λ x q k. search rules) (λ x q k. search rules) refl

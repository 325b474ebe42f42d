-- put: seven stores are a splice.
use Rattle.listing.proofs.Storing.{store_seven}
use Rattle.storage.specs.Bytes.{splice}
use mathlib.Core.List.{[], ◌∷◌}
use mathlib.Core.Path.{◌∙◌}
use Rattle.listing.proofs.numbers.put.Goals as goal

pub returns : goal.returns
returns c =
    store_seven _ _ _ _ _ _ _ _ _ c.requires ∙ λ i. splice
    c.args.numbers.now c.args.at
    (c.args.l.node.at.0 ∷ c.args.l.node.parent.0 ∷
    c.args.l.node.name.0 ∷ c.args.l.node.depth ∷
    (c.from.ensures ∙ c.directory_of.ensures) i ∷ c.first_of.ensures i ∷ c.second_of.ensures i ∷ [])

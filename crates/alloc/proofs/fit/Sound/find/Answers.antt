-- find: the first of the smallest free blocks that have room; the keys order them as their units do.
use Rattle.std.proofs.Common.{rules, tests}
use Rattle.std.proofs.lemmas.Iterator.Consumers.{YieldsList-from_filter, YieldsList-at}
use Rattle.alloc.specs.Answers.{link_of}
use Rattle.alloc.proofs.Fits.{enough, each_filter}
use Rattle.alloc.proofs.FreeWalks.{Bounded, whole-chain, found-tightest}
use Rattle.alloc.proofs.Smallest.{first-smallest}
use Rattle.alloc.proofs.fit.Sound.find.Goals as goal

pub returns : goal.returns
returns c =
    let k = whole-chain {f = c.gaps.result} c.args.self.sound c.gaps.ensures in
    found-tightest c.args.need c.min_by_key.result k
    (first-smallest link_of Bounded _ (record {
      stays = λ x k q h. search (rules, tests);
      less = λ x y k j p q a b h i l. search (rules, tests);
      most = λ x y k j p q a b h i l. search (rules, tests);
    }) _ c.min_by_key.ensures.ran
    (YieldsList-from_filter _ (enough c.args.need) (YieldsList-at c.filter.ensures.source k.yields) c.filter.ensures.closure (λ x b q k. search (rules, tests)))
    (each_filter Bounded (enough c.args.need) k.links k.bounded))

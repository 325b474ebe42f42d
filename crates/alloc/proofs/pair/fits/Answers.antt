-- fits: by the two largest free blocks.
use Rattle.alloc.proofs.Fitting.{decides_none, decides_some}
use Rattle.std.proofs.lemmas.Grind.{common_steps}
use Prim.Native.Nat.{max, min}
use mathlib.Core.Path.{◌≡◌}
use native.Mathlib.Omega.{arith}
use Rattle.alloc.proofs.pair.fits.Goals as goal

pub returns-then-first-more : goal.returns-then-first-more
returns-then-first-more c =
    let more : c.max-more.result ≡ max c.args.a c.args.b = grind (arith, common_steps) in
    let less : c.min-less.result ≡ min c.args.a c.args.b = grind (arith, common_steps) in
    decides_none c.largest_free-first.ensures _ _ more less (omega arith)

pub returns : goal.returns
returns c =
    let more : c.max-more.result ≡ max c.args.a c.args.b = grind (arith, common_steps) in
    let less : c.min-less.result ≡ min c.args.a c.args.b = grind (arith, common_steps) in
    decides_some c.largest_free-first.ensures _ _ more less (omega arith)

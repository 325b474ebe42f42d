-- largest_free: what was passed is counted in, so the rest decides.
use Rattle.alloc.proofs.Fits.{Scans}
use Rattle.alloc.proofs.FreeWalks.{OnGaps}
use Rattle.alloc.proofs.pair.largest_free.Given as goal

abbrev pub invariant-loop-gap : goal.invariant-loop-gap
invariant-loop-gap l = record {
  walk : OnGaps l.sound.image.now l.gap-iterator;
  scans : Scans l.sound.image.now l.found.first l.found.second l.gap-iterator.at.0;
}

-- last_free: the hook of what lies before, followed up to the block.
use Rattle.std.specs.Prelude.{IfSome}
use Rattle.alloc.specs.Answers.{ref_before, GapIn}
use Rattle.alloc.proofs.FreeWalks.{OnGaps}
use Rattle.alloc.proofs.Plans.{Trails}
use Rattle.alloc.proofs.release.Held.last_free.Given as goal

abbrev pub invariant-loop-gap : goal.invariant-loop-gap
invariant-loop-gap l = record {
  walk : OnGaps l.self.image.now l.gap-iterator;
  trails : Trails l.self.image.now l.self.at.0 (ref_before l.last) l.gap-iterator.at.0;
  gap : IfSome l.last (λ g. GapIn l.self.image.now g);
}

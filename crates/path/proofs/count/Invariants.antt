-- count: one, and one for each slash behind the first byte.
use Rattle.std.proofs.Common.{◌≤◌, ◌+◌, length}
use Rattle.path.specs.Path.{parts, components}
use Rattle.path.specs.Walk.{Walk}
use Rattle.path.proofs.count.Given as goal

abbrev pub invariant-loop-byte : goal.invariant-loop-byte
invariant-loop-byte l = record {
  few : l.n ≤ l.byte-index + 1;
  counted : Walk l.byte-items (1 + length (components l.path)) (λ t. l.n + length (parts t)) l.byte-index;
}

-- distinct_in: each slot leads to the next of its chain.
use Rattle.std.proofs.Common.{rules, length, ◌-◌}
use Rattle.tree.specs.Prints.{chain}
use Rattle.tree.proofs.names.distinct_in.Goals as goal

pub distinct_by-requires-clause-leads : goal.distinct_by-requires-clause-leads
distinct_by-requires-clause-leads c = record { chain = chain (length c.args.heads.now - 1); onward = λ j k h e. search rules }

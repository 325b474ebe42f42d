-- count: by what check answers, and the count.
use Rattle.calls.proofs.Checking.{checked_broken}
use Rattle.listing.proofs.Call.{answer_all, answer_broken, answer_short}
use Rattle.listing.proofs.rows.count.Goals as goal

pub returns-in-Err-clause-answers : goal.returns-in-Err-clause-answers
returns-in-Err-clause-answers c = answer_broken (checked_broken _ c.in-Err.own c.in-Err.ensures.outcome) c.in-Err.ensures.outcome

pub returns-then-lent-count-clause-answers : goal.returns-then-lent-count-clause-answers
returns-then-lent-count-clause-answers c = answer_short c.in-Ok.formed.formed c.in-Ok.ensures.same_image c.count-count.ensures c.if-lent-count.true

pub returns-clause-answers : goal.returns-clause-answers
returns-clause-answers c = answer_all c.in-Ok.formed.formed c.in-Ok.ensures.same_image c.count-count.ensures c.if-lent-count.false

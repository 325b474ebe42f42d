-- begin: a byte above 7F has followers, and one below stands alone, if it is allowed.
use Rattle.std.proofs.Common.{sym, ◌∙◌}
use Rattle.path.proofs.Spelling.{begins_several, begins_alone, begins_forbidden}
use Rattle.path.proofs.characters.begin.Goals as goal

pub returns-then-b-ge128 : goal.returns-then-b-ge128
returns-then-b-ge128 c = begins_several c.if-b-ge128.true c.followers.ensures c.lowest.ensures c.highest.ensures

pub returns-then-forbidden_byte : goal.returns-then-forbidden_byte
returns-then-forbidden_byte c = begins_forbidden (sym c.forbidden_byte.ensures ∙ c.if-forbidden_byte.true)

pub returns : goal.returns
returns c = begins_alone c.if-b-ge128.false (sym c.forbidden_byte.ensures ∙ c.if-forbidden_byte.false)

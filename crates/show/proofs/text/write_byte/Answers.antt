-- Two digits.
use Rattle.std.proofs.Common.{rules, false}
use Rattle.std.proofs.lemmas.Fmt.{hex_byte}
use Rattle.show.proofs.text.write_byte.Goals as goal

pub returns : goal.returns
returns g c = search (rules, hex_byte false)

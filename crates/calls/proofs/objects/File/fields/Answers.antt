-- fields: the file that stands there.
use Rattle.calls.proofs.Stands.{file-stands}
use Rattle.calls.proofs.objects.File.fields.Goals as goal

pub invariant_of-result : goal.invariant_of-result
invariant_of-result c = record { there = (file-stands c.args.self.bytes c.args.self.there).0 }

pub returns : goal.returns
returns c = (file-stands c.args.self.bytes c.args.self.there).1

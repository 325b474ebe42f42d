-- fields: the directory that stands there.
use Rattle.calls.proofs.Stands.{directory-stands}
use Rattle.calls.proofs.objects.Directory.fields.Goals as goal

pub invariant_of-result : goal.invariant_of-result
invariant_of-result c = record { there = (directory-stands c.args.self.bytes c.args.self.there).0 }

pub returns : goal.returns
returns c = (directory-stands c.args.self.bytes c.args.self.there).1

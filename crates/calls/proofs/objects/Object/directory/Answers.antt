-- directory: by the magic of the block that stands there.
use Rattle.alloc.specs.Block.{SFde}
use mathlib.Core.Path.{refl}
use Rattle.calls.proofs.Stands.{header-inside, magic-told}
use Rattle.calls.proofs.objects.Object.directory.Goals as goal

pub invariant_of-header : goal.invariant_of-header
invariant_of-header c = record { inside = header-inside c.args.self.bytes c.args.self.there }

pub returns-then-not-is : goal.returns-then-not-is
returns-then-not-is c = magic-told c.args.self.bytes c.args.self.there SFde c.if-not-is.ensures

pub invariant_of-result-clause-there : goal.invariant_of-result-clause-there
invariant_of-result-clause-there c = record { formed = c.args.self.there.formed; kind = magic-told c.args.self.bytes c.args.self.there SFde c.if-not-is.ensures }

pub returns : goal.returns
returns c = record { kind = magic-told c.args.self.bytes c.args.self.there SFde c.if-not-is.ensures; image = refl; at = refl }

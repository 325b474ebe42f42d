-- copy_out: the bytes lie in the file's data, which stands in the image.
use Rattle.calls.proofs.Contents.{content_part, file_end, file-standing}
use mathlib.Core.Path.{◌∙◌}
use native.Mathlib.Omega.{arith}
use Rattle.calls.proofs.objects.File.copy_out.Goals as goal

pub overflow_add-position : goal.overflow_add-position
overflow_add-position c = omega (arith, c.requires, file_end c.args.self.bytes c.args.self.there)

pub invariant_of-copy_out : goal.invariant_of-copy_out
invariant_of-copy_out c = record { standing = file-standing c.args.self.bytes c.args.self.there }

pub copy_out-requires : goal.copy_out-requires
copy_out-requires c = omega (arith, c.requires, file_end c.args.self.bytes c.args.self.there)

pub returns : goal.returns
returns c = c.copy_out.ensures ∙ content_part c.args.self.bytes c.args.self.there _ _ c.requires

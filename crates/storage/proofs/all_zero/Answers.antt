-- all_zero: the bytes of the part.
use Rattle.std.proofs.Common.{◌∙◌, sym, ap}
use Rattle.storage.specs.Bytes.{zeros}
use Rattle.storage.proofs.Compare.{all-zeros}
use Rattle.storage.proofs.Runs.{drop-take}
use Rattle.storage.proofs.all_zero.Goals as goal

pub returns : goal.returns
returns c = c.only_zeros.ensures ∙ all-zeros _ ∙ ap zeros (sym (drop-take c.args.from.0 c.args.to.0 c.args.s.now))

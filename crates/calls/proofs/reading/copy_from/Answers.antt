-- copy_from: nothing from the file's end on, else what fits.
use Rattle.calls.proofs.Contents.{copies_none, copies_some}
use Rattle.calls.proofs.reading.copy_from.Goals as goal

pub returns-then-size-position : goal.returns-then-size-position
returns-then-size-position c = copies_none c.args.file.bytes c.args.file.there c.size-size.ensures _ _ c.if-size-position.true

pub returns : goal.returns
returns c = copies_some c.args.file.bytes c.args.file.there c.size-size.ensures _ _ _ c.if-size-position.false c.min-n.ensures c.copy_out.ensures

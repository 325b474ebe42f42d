-- directory: the bytes before the last slash, and the first byte at least.
use Rattle.std.proofs.Common.{arith, ◌∙◌}
use Rattle.path.proofs.Parts.{last-found, directory-is}
use Rattle.path.proofs.directory.Goals as goal

pub returns : goal.returns
returns c =
    let found = c.last_slash.ensures in
    directory-is _ _ _ (c.unwrap_or-last.ensures ∙ last-found _ _ found.none found.at found.last) (omega arith)

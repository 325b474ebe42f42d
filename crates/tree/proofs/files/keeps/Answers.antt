-- keeps: the two numbers of a file.
use Rattle.tree.proofs.Tests.{file_room, no_file, file_tested}
use Rattle.tree.proofs.files.keeps.Goals as goal

pub returns-in_default : goal.returns-in_default
returns-in_default c = no_file _ _ c.in_default.ensures

pub read_u64-chunk-requires : goal.read_u64-chunk-requires
read_u64-chunk-requires c =
    let f = c.in-Some.ensures in
    rw (f.image, f.at) at (file_room c.in-Some.file.there).0

pub returns : goal.returns
returns c =
    let f = c.in-Some.ensures in
    file_tested _ _ _ _ _ f.kind (rw (f.image, f.at) at c.room.ensures) (rw (f.image, f.at) at c.size.ensures) c.read_u64-chunk.ensures

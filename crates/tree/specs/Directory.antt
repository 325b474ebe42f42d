-- A directory as code passes it: an image, and the ref at which it stands.
use Rattle.alloc.specs.Block.{Block, block_of}
use Rattle.alloc.specs.Volume.{Objects, volume_of, objects}
use Rattle.tree.specs.declared.directory.Directory.{Directory}

-- its block
abbrev pub block_in : Directory → Block
block_in d = block_of d.image.now d.at.0

-- the objects beside it
abbrev pub objects_in : Directory → Objects
objects_in d = objects (volume_of d.image.now)

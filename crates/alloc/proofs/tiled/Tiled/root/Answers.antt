-- root: the superblock's first ref.
use Rattle.alloc.proofs.Cuts.{tiled-long}
use Rattle.alloc.proofs.Links.{volume-root}
use Rattle.storage.specs.Bytes.{u64_at}
use mathlib.Core.Path.{ap, sym, ◌∙◌}
use native.Mathlib.Omega.{arith}
use Rattle.alloc.proofs.tiled.Tiled.root.Goals as goal

pub read_ref-requires : goal.read_ref-requires
read_ref-requires c = omega (arith, c.data_start.ensures, tiled-long c.args.self.tiled)

pub returns : goal.returns
returns c = c.read_ref.ensures ∙ ap (u64_at _) c.data_start.ensures ∙ sym (volume-root c.args.self.tiled)

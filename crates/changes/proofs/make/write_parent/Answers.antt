-- write_parent: a directory's parent; a file has none.
use Prim.Native.Nat.{ℕ}
use Rattle.alloc.specs.Room.{after_update}
use Rattle.changes.proofs.Making.{parent-directory, parent-file}
use Rattle.changes.proofs.Storing.{store_none}
use Rattle.changes.specs.Answers.{new_of}
use Rattle.storage.proofs.Numbers.{length-be64}
use lib.ListN.{length}
use mathlib.Core.List.{List}
use mathlib.Core.Path.{◌∙◌, ap}
use native.Mathlib.Omega.{arith}
use Rattle.changes.proofs.make.write_parent.Goals as goal

pub write_ref-requires : goal.write_ref-requires
write_ref-requires c = (c.requires.0, omega (arith, c.requires.1, ap length (parent-directory _ _ c.args.d.0 (ap new_of c.in-Directory.is)), length-be64 c.args.d.0))

pub returns-in-File : goal.returns-in-File
returns-in-File c = store_none c.requires.0.sound _ _ ∙ ap (λ (x : List ℕ). after_update c.args.o.0 0 x c.args.image.now) (parent-file _ _ _ (ap new_of c.in-File.is))

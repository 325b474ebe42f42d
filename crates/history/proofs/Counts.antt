-- The kind and numbers of an object are the book's.
use Prim.Native.Nat.{◌≤◌, suc, ℕ}
use mathlib.Core.Path.{◌∙◌, ◌≡◌, ap, ap₂, refl, sym}
use native.Mathlib.Omega.{arith}
use lib.ListN.{drop, length, length-drop, length-take}
use Rattle.calls.proofs.Contents.{file_no_dir}
use Rattle.alloc.specs.Block.{Block}
use Rattle.tree.specs.Fields.{content, file_size, room, taken_count}
use Rattle.calls.specs.Reading as reading
use Rattle.calls.specs.Reading.{directory, kind_of}
use Rattle.history.specs.Claim.{slots_in, taken_in}
use Rattle.history.proofs.Nodes.{DirNode, FileNode, Node, Stands, book_of, dir, empty, end, file, slots_of}
use Rattle.history.proofs.Walks.{taken_some, total-row}

-- taken slots
taken-count : (up : ℕ) (c : Node) → Stands up c → taken_count (slots_of c) ≡ taken_in (book_of c)
unfolding taken_in taken_count
taken-count up end s = refl
taken-count up (empty t) s = taken-count up t s
taken-count up (file n r a b t) s = rw (taken_some n r s.1.some) (ap suc (taken-count up t s.3))
taken-count up (dir n r a b c t) s = rw (taken_some n r s.1.some) (ap suc (taken-count up t s.4))

-- all slots
slot-count : (c : Node) → length (slots_of c) ≡ slots_in (book_of c)
unfolding slots_in
slot-count end = refl
slot-count (empty t) = ap suc (slot-count t)
slot-count (file n r a b t) = ap suc (slot-count t)
slot-count (dir n r a b c t) = ap suc (slot-count t)

-- a directory
pub dir_kind : (r up : ℕ) (b : Block) (c : Node) → DirNode r up b c → Stands r c
    → kind_of b ≡ directory (taken_in (book_of c)) (slots_in (book_of c))
dir_kind r up b c d s =
    rw (d.is_dir, d.slots) (ap₂ directory (taken-count r c s) (sym (total-row b c d.is_dir d.slots) ∙ slot-count c))

-- the file size counts its bytes
pub size-content : (b : Block) → file_size b ≤ room b → file_size b ≡ length (content b)
unfolding content
size-content b h = rw (length-take (file_size b) (drop 16 b.body), length-drop 16 b.body) (omega arith)

-- a file
pub file-kind : (r : ℕ) (b : Block) → FileNode r b → kind_of b ≡ reading.file (length (content b)) (room b)
file-kind r b h = rw (file_no_dir b h.is_file) (ap (λ (n : ℕ). reading.file n (room b)) (size-content b h.fits))

-- What the answers of this crate's functions say, and what they require.
use Rattle.std.specs.Prelude.{ℕ, ◌+◌, ◌*◌, ◌≤◌, ◌<◌, List, [], ◌≡◌, true, length, Result, Ok, Err}
use Rattle.storage.specs.Bytes.{be64}
use Rattle.storage.specs.declared.Ref.{Ref}
use Rattle.alloc.specs.Block.{SFde, SFre}
use Rattle.alloc.specs.Tiling.{length_allowed}
use Rattle.tree.specs.Fields.{total, slot_at, taken}
use Rattle.calls.specs.declared.refusal.Refusal as declared-refusal
use Rattle.calls.specs.Refusal.{Refusal}
use Rattle.calls.specs.Reading.{block_in}
use Rattle.calls.specs.Answers.{DirectoryIn}
use Rattle.changes.specs.declared.make.New as declared-new
use Rattle.changes.specs.declared.make.New.TheVariants.{Directory, File}
use Rattle.changes.specs.Changing.{Outcome, New, directory, file, Made}

-- a call's answer, and the image then
pub record Changes (o : Outcome) (refusal : Refusal) (image : List ℕ) : Type 0 where
  pub refusal_is : refusal ≡ o.refusal
  pub image-is : image ≡ o.image

-- the ref that a make tells: 0 on a refusal
abbrev pub ref_of : Result Ref declared-refusal.Refusal → ℕ
ref_of (Ok r) = r.0
ref_of (Err r) = 0

-- the answer of a make
pub record Makes (m : Made) (refusal : Refusal) (at : ℕ) (image : List ℕ) : Type 0 where
  pub refusal_is : refusal ≡ m.refusal
  pub at-is : at ≡ m.at
  pub image-is : image ≡ m.image

-- what is to be made
abbrev pub new_of : declared-new.New → New
new_of (Directory slots) = directory slots
new_of (File room) = file room

-- the kind and size of its block
abbrev pub magic_for : New → ℕ
magic_for (directory k) = SFde
magic_for (file n) = SFre

abbrev pub size_for : New → ℕ
size_for (directory k) = 8 + 16 * k
size_for (file n) = 16 + n

-- what is written into it: a directory's parent
abbrev pub parent_field : New → ℕ → List ℕ
parent_field (directory k) d = be64 d
parent_field (file n) d = []

-- an image of n bytes has room for a root with k slots
pub record RootFits (n k : ℕ) : Type 0 where
  pub allowed : length_allowed n ≡ true
  pub least : 0 < k
  pub most : k ≤ 1024
  pub fits : 48 + 16 * k ≤ n

-- bytes that are as long as a name
pub record Named (w : List ℕ) : Type 0 where
  pub least : 0 < length w
  pub most : length w ≤ 64

-- a slot that an object with this name is to have
pub record Vacant (s : List ℕ) (d i : ℕ) (w : List ℕ) : Type 0 where
  pub directory : DirectoryIn s d
  pub slot : i < total (block_in s d)
  pub name : Named w

-- a taken slot
pub record TakenSlot (s : List ℕ) (d i : ℕ) : Type 0 where
  pub directory : DirectoryIn s d
  pub slot : i < total (block_in s d)
  pub is-taken : taken (slot_at (block_in s d) i) ≡ true

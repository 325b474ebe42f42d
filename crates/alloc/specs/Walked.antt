-- Walks over the blocks of a tiled image, and along the free chain of a sound one, as iterators give them.
use Rattle.std.specs.Prelude.{ℕ, ◌+◌, ◌*◌, ◌/◌, ◌≤◌, ◌<◌, List, ◌∷◌, ◌++◌, ◌≡◌, length, Bool, ◌&&◌, Option, Some, None}
use Rattle.storage.specs.Bytes.{u64_at}
use Rattle.alloc.specs.declared.access.Block as declared-block
use Rattle.alloc.specs.declared.fit.Gap.{Gap}
use Rattle.alloc.specs.Block.{Block, units, units_for, size_at}
use Rattle.alloc.specs.Volume.{Extent, volume_of, linked}
use Rattle.alloc.specs.Sound.{end_of, Tiled, Sound}
use Rattle.alloc.specs.Steps.{hook_from}
use Rattle.alloc.specs.Answers.{link_of}

-- at ref r, after the superblock, a block of the tiled image s begins, or s ends
pub record Reached (s : List ℕ) (r : ℕ) : Type 0 where
  pub tiled : Tiled s
  pub past : List Extent
  pub rest : List Extent
  pub parts : (volume_of s).extents ≡ past ++ rest
  pub ref : end_of 2 past ≡ r
  pub inside : 16 * r ≤ length s

-- a step of the walk, from ref r to ref q: it gives the block at r, or nothing where the image ends
abbrev pub Passes : List ℕ → ℕ → Option declared-block.Block → ℕ → Type 0
Passes s r None q = length s ≤ 16 * r
Passes s r (Some x) q = (x.image.now ≡ s) × (x.at.0 ≡ r) × (16 * r < length s) × (q ≡ r + units_for (size_at s r))

-- the ref n that stands at byte h of the sound image s is the next of the free chain, 0 at its end
pub record OnChain (s : List ℕ) (h n : ℕ) : Type 0 where
  pub sound : Sound s
  pub past : List Extent
  pub rest : List Extent
  pub parts : (volume_of s).extents ≡ past ++ rest
  pub hooks : hook_from 16 2 past ≡ h
  pub reads : n ≡ u64_at s h

-- the free block at ref n comes as g, and the ref m at byte o follows
pub record Comes (s : List ℕ) (h n : ℕ) (g : Gap) (o m : ℕ) : Type 0 where
  pub there : 0 < n
  pub link : link_of g ≡ record { hook = h; at = n; units = (size_at s n + 8) / 16; next = m }
  pub inner : o ≡ 16 * n + 8
  pub reads : m ≡ u64_at s o

-- a step along the chain: the free block, or nothing at the end
abbrev pub Follows : List ℕ → ℕ → ℕ → Option Gap → ℕ → ℕ → Type 0
Follows s h n None o m = n ≡ 0
Follows s h n (Some g) o m = Comes s h n g o m

-- the scan for rule 8 passes the block b at ref r: the chain holds from there on where b may stand there and it holds behind b
abbrev pub Scans : Block → ℕ → Bool → ℕ → Bool → Bool → ℕ → Type 0
Scans b r behind next stands behind' next' = (bs : List Block) → linked behind next r (b ∷ bs) ≡ (stands && linked behind' next' (r + units b) bs)

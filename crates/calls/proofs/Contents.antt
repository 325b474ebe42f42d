-- The bytes of a file, as code copies them.
use Prim.Native.Nat.{ℕ, ◌+◌, ◌-◌, ◌<◌, ◌≤◌, min}
use mathlib.Core.List.{List, [], ◌++◌}
use mathlib.Core.Path.{◌≡◌, refl, ap, sym, ◌∙◌, subst}
use mathlib.Core.Bool.{Bool, true, false}
use native.Mathlib.Omega.{arith}
use lib.Dec.{leb}
use borrow.Author.Tests.{leb-true, leb-false, eqb-true, ne_eqb}
use lib.ListN.{length, take, drop, length-take}
use lib.Seq.{take_all, take-take, drop-drop}
use Rattle.storage.specs.Bytes.{splice, u64_at}
use Rattle.storage.proofs.Numbers.{AllBytes}
use Rattle.storage.proofs.Runs.{length_part, drop-take}
use Rattle.storage.proofs.Splice.{splice_none}
use Rattle.alloc.specs.Block.{Block, SFde, SFre, size_at, block_of}
use Rattle.alloc.specs.Sound.{Standing}
use Rattle.alloc.proofs.Cuts.{block_size}
use Rattle.tree.specs.Fields.{is_dir, is_file, file_size, room, content}
use Rattle.tree.proofs.Formed.{formed-file}
use Rattle.tree.proofs.Tests.{file_data_size}
use Rattle.calls.specs.Reading.{block_in}
use Rattle.calls.specs.Answers.{FileIn, Copies}
use Rattle.calls.proofs.Stands.{file-stands}

-- a file is no directory
pub file_no_dir : (b : Block) → is_file b ≡ true → is_dir b ≡ false
file_no_dir b e = let m = eqb-true b.magic SFre e in ne_eqb b.magic SFde (λ q. omega arith)

-- l bytes from position p of the file's bytes lie in the data behind the file size
part_of_content : (b : Block) (p l : ℕ) → p + l ≤ file_size b → take l (drop (16 + p) b.body) ≡ take l (drop p (content b))
unfolding content
part_of_content b p l h =
    sym
    (ap (take l) (drop-take p (file_size b) (drop 16 b.body))
    ∙ take-take l (file_size b - p) (drop p (drop 16 b.body)) (omega arith)
    ∙ ap (take l) (drop-drop p 16 b.body))

-- from position p on no more than n of them are left
cut_at_end : (b : Block) (p l n : ℕ) → n ≡ min l (file_size b - p) → take l (drop p (content b)) ≡ take n (drop p (content b))
unfolding content
cut_at_end b p l n e = rw (drop-take p (file_size b) (drop 16 b.body)) (go (leb l m) refl)
  where
    m : ℕ
    m = file_size b - p

    xs : List ℕ
    xs = take m (drop p (drop 16 b.body))

    go : (t : Bool) → leb l m ≡ t → take l xs ≡ take n xs
    go true q =
        let k : l ≡ n = omega (arith, leb-true l m q) in
        ap (λ (i : ℕ). take i xs) k
    go false q =
        let k = leb-false l m q in
        let y = length-take m (drop p (drop 16 b.body)) in
        take_all l xs (omega (arith, y)) ∙ sym (take_all n xs (omega (arith, y)))

module _ {s : List ℕ} (h : AllBytes s) {r : ℕ} (f : FileIn s r) where
  pub file-standing : Standing s r
  file-standing = (file-stands h f).0.standing

  block-is : block_of s r ≡ block_in s r
  block-is = (file-stands h f).1

  -- the numbers of a file, as they are read
  pub file_numbers : (16 ≤ size_at s r) × (size_at s r ≤ 65552)
  file_numbers = file_data_size file-standing (file-stands h f).0.magic

  pub room-is : room (block_in s r) ≡ size_at s r - 16
  room-is = ap room (sym block-is) ∙ ap (λ (n : ℕ). n - 16) (block_size s r file-standing.fits)

  pub size-read : {z : ℕ} → z ≡ u64_at (block_of s r).body 0 → z ≡ file_size (block_in s r)
  size-read e = e ∙ ap file_size block-is

  -- its bytes lie in its data
  pub file_end : (file_size (block_in s r) + 16 ≤ size_at s r) × (size_at s r ≤ 65552)
  file_end = let e = subst (λ (n : ℕ). file_size (block_in s r) ≤ n) room-is (formed-file s h f.formed r f.kind).0 in omega (arith, e, file_numbers)

  pub content_part : (p l : ℕ) → p + l ≤ file_size (block_in s r) → take l (drop (16 + p) (block_of s r).body) ≡ take l (drop p (content (block_in s r)))
  content_part p l k = ap (λ (b : Block). take l (drop (16 + p) b.body)) block-is ∙ part_of_content (block_in s r) p l k

  length-content_part : (p l : ℕ) → p + l ≤ file_size (block_in s r) → length (take l (drop p (content (block_in s r)))) ≡ l
  length-content_part p l k =
      sym (ap length (content_part p l k))
      ∙ length_part (block_of s r).body (16 + p) l (omega (arith, k, file_end, block_size s r file-standing.fits))

  -- what is copied from position p on, of a file of z bytes
  module _ {z : ℕ} (e : z ≡ file_size (block_in s r)) (p : ℕ) (buffer : List ℕ) where
    pub copies_none : z ≤ p → Copies s r p buffer 0 buffer
    copies_none l =
        let q : take (length buffer) (drop p (content (block_in s r))) ≡ [] = cut_at_end (block_in s r) p (length buffer) 0 (omega (arith, e)) in
        record {
          bytes = record {
            refusal_is = refl;
            count-is = ap length (sym q);
            buffer-is = sym (ap (splice buffer 0) q ∙ splice_none buffer 0);
          };
        }

    module _ (n : ℕ) (l : p < z) (m : n ≡ min (length buffer) (z - p)) where
      pub copies_some : {bytes : List ℕ} → bytes ≡ take (length (take n buffer)) (drop p (content (block_in s r))) → Copies s r p buffer n (bytes ++ drop n buffer)
      unfolding splice
      copies_some {bytes} g =
          let y : length (take n buffer) ≡ n = omega (arith, length-take n buffer) in
          let x : List ℕ = take n (drop p (content (block_in s r))) in
          let c : take (length buffer) (drop p (content (block_in s r))) ≡ x = cut_at_end (block_in s r) p (length buffer) n (omega (arith, e)) in
          let k : length x ≡ n = length-content_part p n (omega (arith, e)) in
          let j : n ≡ 0 + length x = omega (arith, k) in
          let b : bytes ≡ x = g ∙ ap (λ (i : ℕ). take i (drop p (content (block_in s r)))) y in
          record {
            bytes = record {
              refusal_is = refl;
              count-is = sym (ap length c ∙ k);
              buffer-is = ap (λ (t : List ℕ). t ++ drop n buffer) b ∙ ap (λ (i : ℕ). x ++ drop i buffer) j ∙ ap (splice buffer 0) (sym c);
            };
          }

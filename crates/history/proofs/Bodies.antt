-- A file's block after a store: its size, its room, and its bytes by the book's rules.
use Prim.Native.Nat.{◌+◌, ◌-◌, ◌<◌, ◌≤◌, max, min, ℕ}
use mathlib.Core.Bool.{Bool, false, true}
use mathlib.Core.List.{List, ◌++◌, append_assoc, append-nil}
use mathlib.Core.Path.{◌∙◌, ◌≡◌, ap, ap₂, refl, sym}
use native.Mathlib.Nat.{zero-add}
use native.Mathlib.Omega.{arith}
use lib.Dec.{leb}
use lib.ListN.{drop, drop_of_length-le, length, length-append, length-drop, take, take-append-drop}
use lib.Seq.{drop_at, drop-drop, length-take-le, take_all, take-append-add, take_at, take-take}
use borrow.Author.Tests.{leb-false, leb-true}
use Rattle.storage.proofs.Runs.{drop-take}
use Rattle.storage.specs.Bytes.{be32, be64, splice, u64_at, zeroed}
use Rattle.storage.proofs.Numbers.{length-be64, u64_before, u64_behind, u64_written}
use Rattle.storage.proofs.Splice.{length-splice, splice_right}
use Rattle.alloc.specs.Block.{Block}
use Rattle.alloc.proofs.Data.{spliced}
use Rattle.alloc.proofs.Releasing.{length-zeroed}
use Rattle.tree.specs.Fields.{content, file_size, room}
use Rattle.history.specs.Book.{resized, written}
use Rattle.history.proofs.Nodes.{FileNode}

-- the bytes x over a file's content from a position on, then its size
abbrev pub rewritten : Block → ℕ → ℕ → List ℕ → Block
rewritten b size from x = spliced (spliced b (16 + from) x) 0 (be64 size)

-- a file's block that says what f makes of its bytes
pub record Rewritten (r : ℕ) (b x : Block) (f : List ℕ → List ℕ) : Type 0 where
  pub stands : FileNode r x
  pub same-room : room x ≡ room b
  pub bytes : content x ≡ f (content b)

-- behind the fields
drop-splice : (s x : List ℕ) (m j : ℕ) → m + j ≤ length s → drop m (splice s (m + j) x) ≡ splice (drop m s) j x
drop-splice s x m j h =
    let l : length (take m s) ≡ m = length-take-le m s (omega arith) in
    ap (λ (t : List ℕ). drop m (splice t (m + j) x)) (sym (take-append-drop m s))
    ∙ ap (drop m) (splice_right (take m s) (drop m s) x j (m + j) (ap (λ (k : ℕ). k + j) l))
    ∙ drop_at (take m s) (splice (drop m s) j x) m l

past_size : (n : ℕ) (s : List ℕ) → drop 16 (be64 n ++ drop 8 s) ≡ drop 16 s
unfolding be64 be32
past_size n s = drop-drop 8 8 s

-- ---- the fields

module _ (b : Block) (size from : ℕ) (x : List ℕ) (whole : 16 ≤ length b.body) (inside : from + length x ≤ room b) where
  abbrev inner : List ℕ
  inner = splice b.body (16 + from) x

  in_body : 16 + from + length x ≤ length b.body
  in_body = omega arith

  inner_length : length inner ≡ length b.body
  inner_length = length-splice b.body x (16 + from) in_body

  in_inner : 0 + length (be64 size) ≤ length inner
  in_inner = omega (arith, length-be64 size, inner_length)

  length_rewritten : length (rewritten b size from x).body ≡ length b.body
  length_rewritten = length-splice inner (be64 size) 0 in_inner ∙ inner_length

  room_rewritten : room (rewritten b size from x) ≡ room b
  room_rewritten = ap (λ (n : ℕ). n - 16) length_rewritten

  size_rewritten : size < 18446744073709551616 → file_size (rewritten b size from x) ≡ size
  size_rewritten h = u64_written inner 0 size (omega (arith, inner_length)) h

  reserved_rewritten : u64_at (rewritten b size from x).body 8 ≡ u64_at b.body 8
  reserved_rewritten =
      u64_behind inner (be64 size) 0 in_inner 8 (omega (arith, length-be64 size))
      ∙ u64_before b.body x (16 + from) in_body 8 (omega arith)

  content_rewritten : size < 18446744073709551616 → content (rewritten b size from x) ≡ take size (splice (drop 16 b.body) from x)
  unfolding content splice
  content_rewritten h =
      let f : drop 16 (splice inner 0 (be64 size)) ≡ drop 16 inner =
      ap (λ (k : ℕ). drop 16 (be64 size ++ drop k inner)) (zero-add (length (be64 size)) ∙ length-be64 size) ∙ past_size size inner in
      ap₂ (λ (n : ℕ) (l : List ℕ). take n l) (size_rewritten h) (f ∙ drop-splice b.body x 16 from (omega arith))

  -- so the block stands as a file, with the bytes that f makes
  pub rewritten_file : (r : ℕ) → FileNode r b → size ≤ room b → length b.body < 4294967296 → (f : List ℕ → List ℕ)
      → take size (splice (drop 16 b.body) from x) ≡ f (content b) → Rewritten r b (rewritten b size from x) f
  rewritten_file r s l m f e = record {
    stands = record {
      some = s.some;
      is_file = s.is_file;
      fits = omega (arith, size_rewritten (omega arith), room_rewritten);
      reserved = reserved_rewritten ∙ s.reserved;
      whole = omega (arith, length_rewritten);
    };
    same-room = room_rewritten;
    bytes = content_rewritten (omega arith) ∙ e;
  }

-- ---- a file's bytes in its room

module _ (d x : List ℕ) (p size : ℕ) (inside : p + length x ≤ length d) (fits : size ≤ length d) where
  long : length (take size d) ≡ size
  long = length-take-le size d fits

  -- the position lies in the file
  over : p ≤ size → take (max size (p + length x)) (splice d p x) ≡ splice (take size d) p x
  unfolding splice
  over h =
      let e : max size (p + length x) ≡ p + (length x + (size - (p + length x))) = omega arith in
      let f : length (take p d) ≡ p = length-take-le p d (omega arith) in
      rw (e, take-take p size d h, drop-take (p + length x) size d)
      (take_two p (take p d) (x ++ drop (p + length x) d) (length x + (size - (p + length x))) f
      ∙ ap (λ (y : List ℕ). take p d ++ y) (take_two (length x) x (drop (p + length x) d) (size - (p + length x)) refl))
    where
      take_two : (m : ℕ) (u w : List ℕ) (k : ℕ) → length u ≡ m → take (m + k) (u ++ w) ≡ u ++ take k w
      take_two m u w k e = rw (← e) (take-append-add u w k)

  -- the position lies past its end
  past : size ≤ p → take (p + length x) (splice d size (zeroed (p - size) ++ x)) ≡ splice (take size d ++ zeroed (p - size)) p x
  unfolding splice
  past h =
      let z : List ℕ = zeroed (p - size) in
      let g : length (take size d ++ z) ≡ p = length-append (take size d) z ∙ omega (arith, long, length-zeroed (p - size)) in
      let k : length ((take size d ++ z) ++ x) ≡ p + length x = length-append (take size d ++ z) x ∙ ap (λ (y : ℕ). y + length x) g in
      let rest : List ℕ = drop (size + length (z ++ x)) d in
      rw (regroup (take size d) z x rest, take_at ((take size d ++ z) ++ x) rest (p + length x) k)
      (sym (ap₂ (λ (u w : List ℕ). u ++ (x ++ w)) (take_all p (take size d ++ z) (omega arith)) (drop_of_length-le (take size d ++ z) {i = p + length x} (omega arith))
      ∙ ap (λ (w : List ℕ). (take size d ++ z) ++ w) (append-nil x)))
    where
      regroup : (u z x r : List ℕ) → u ++ ((z ++ x) ++ r) ≡ ((u ++ z) ++ x) ++ r
      regroup u z x r = simp append_assoc

  -- either way: what the store makes is what the book says
  written_is : take (max size (p + length x)) (splice d (min p size) (zeroed (p - min p size) ++ x)) ≡ written p x (take size d)
  unfolding written
  written_is = go (leb p size) refl
    where
      go : (q : Bool) → leb p size ≡ q
          → take (max size (p + length x)) (splice d (min p size) (zeroed (p - min p size) ++ x)) ≡ splice (take size d ++ zeroed (p - length (take size d))) p x
      go true e =
          let h : p ≤ size = leb-true p size e in
          let a : min p size ≡ p = omega arith in
          let b : p - p ≡ 0 = omega arith in
          let c : p - length (take size d) ≡ 0 = omega (arith, long) in
          rw (a, b, c, append-nil (take size d)) (over h)
      go false e =
          let h : size ≤ p = omega (arith, leb-false p size e) in
          let a : min p size ≡ size = omega arith in
          let b : max size (p + length x) ≡ p + length x = omega arith in
          rw (a, b, long) (past h)

-- zeros between the old end and the new
resized-is : (d : List ℕ) (size n : ℕ) → size ≤ length d → n ≤ length d
    → take n (splice d (min n size) (zeroed (max n size - min n size))) ≡ resized n (take size d)
unfolding resized splice
resized-is d size n fits h = go (leb n size) refl
  where
    long : length (take size d) ≡ size
    long = length-take-le size d fits

    go : (q : Bool) → leb n size ≡ q → take n (splice d (min n size) (zeroed (max n size - min n size))) ≡ take n (take size d) ++ zeroed (n - length (take size d))
    go true e =
        let k : n ≤ size = leb-true n size e in
        let a : min n size ≡ n = omega arith in
        let c : n - length (take size d) ≡ 0 = omega (arith, long) in
        rw (a, c, append-nil (take n (take size d)), take-take n size d k)
        (take_at (take n d) (zeroed (max n size - n) ++ drop (n + length (zeroed (max n size - n))) d) n (length-take-le n d h))
    go false e =
        let k : size ≤ n = omega (arith, leb-false n size e) in
        let a : min n size ≡ size = omega arith in
        let b : max n size ≡ n = omega arith in
        let z : List ℕ = zeroed (n - size) in
        let g : length (take size d ++ z) ≡ n = length-append (take size d) z ∙ omega (arith, long, length-zeroed (n - size)) in
        rw (a, b, long, take_all n (take size d) (omega (arith, long)), ← append_assoc (take size d) z (drop (size + length z) d))
        (take_at (take size d ++ z) (drop (size + length z) d) n g)

-- ---- write and set length

-- what a store is given, of a write and of a set length
abbrev pub gap_then : Block → ℕ → List ℕ → List ℕ
gap_then b position bytes = zeroed (position - min position (file_size b)) ++ bytes

abbrev pub gap_to : Block → ℕ → List ℕ
gap_to b n = zeroed (max n (file_size b) - min n (file_size b))

module _ (r : ℕ) (b : Block) (s : FileNode r b) (small : length b.body < 4294967296) where
  behind_fields : length (drop 16 b.body) ≡ room b
  behind_fields = length-drop 16 b.body

  -- a write lies within the room, and the file has its bytes then
  pub write-inside : (position : ℕ) (bytes : List ℕ) → position + length bytes ≤ room b → min position (file_size b) + length (gap_then b position bytes) ≤ room b
  write-inside position bytes l =
      let g = min position (file_size b) in
      omega (arith, length-append (zeroed (position - g)) bytes, length-zeroed (position - g))

  pub by_write : (position : ℕ) (bytes : List ℕ) → position + length bytes ≤ room b
      → Rewritten r b (rewritten b (max (file_size b) (position + length bytes)) (min position (file_size b)) (gap_then b position bytes)) (written position bytes)
  unfolding content
  by_write position bytes l =
      rewritten_file b (max (file_size b) (position + length bytes)) (min position (file_size b)) (gap_then b position bytes) s.whole
      (write-inside position bytes l) r s (omega (arith, s.fits)) small (written position bytes)
      (written_is (drop 16 b.body) bytes position (file_size b) (omega (arith, behind_fields)) (omega (arith, behind_fields, s.fits)))

  -- so does a set length
  pub length-inside : (n : ℕ) → n ≤ room b → min n (file_size b) + length (gap_to b n) ≤ room b
  length-inside n l = omega (arith, length-zeroed (max n (file_size b) - min n (file_size b)), s.fits)

  pub by_length : (n : ℕ) → n ≤ room b → Rewritten r b (rewritten b n (min n (file_size b)) (gap_to b n)) (resized n)
  unfolding content
  by_length n l =
      rewritten_file b n (min n (file_size b)) (gap_to b n) s.whole (length-inside n l) r s l small (resized n)
      (resized-is (drop 16 b.body) (file_size b) n (omega (arith, behind_fields, s.fits)) (omega (arith, behind_fields)))

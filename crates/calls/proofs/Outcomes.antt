-- The calls that change nothing, by how they begin.
use Prim.Native.Nat.{◌<◌, ℕ}
use mathlib.Core.Bool.{Bool, cond, true}
use mathlib.Core.List.{List}
use mathlib.Core.Path.{◌∙◌, ◌≡◌, ap, refl, subst, sym}
use native.Mathlib.Omega.{arith}
use lib.Dec.{leb}
use lib.ListN.{drop, length, take}
use borrow.Author.Tests.{leb-true}
use Rattle.storage.specs.Bytes.{zeroed}
use Rattle.storage.proofs.Booleans.{and_true}
use Rattle.alloc.specs.Tiling.{within}
use Rattle.tree.specs.Fields.{content}
use Rattle.calls.specs.declared.refusal.Reason.TheVariants.{IsDirectory}
use Rattle.calls.specs.Refusal.{Accepted, For, Refusal}
use Rattle.calls.specs.Answers.{Copies, Points, Reads}
use Rattle.calls.specs.Reading.{block_in, copied, find, found_at, no_point, point_at, point_of, read, read_at, read_point, unread}
use Rattle.calls.specs.Walk.{Start, as_file, opening, reached, refused, start}
use Rattle.calls.proofs.Steps.{opened, over_file, reached-file, reached_opened}

module _ (s path : List ℕ) where
  pub find-so : (x : Start) → x ≡ start s path true → found_at s x ≡ find s path
  unfolding find
  find-so x e = ap (found_at s) e

  -- reading
  module _ (position : ℕ) (buffer : List ℕ) where
    reads : (x : Start) → x ≡ as_file s (start s path true) → {n : Refusal} {m : ℕ} {b : List ℕ} → Reads (read_at s position buffer x) n m b → Reads (read s path position buffer) n m b
    unfolding read
    reads x e {n} {m} {b} =
        let f = over_file s (read_at s position buffer) (λ r. copied buffer (take (length buffer) (drop position (content (block_in s r))))) (λ r. refl) (start s path true) in
        subst (λ a. Reads a n m b) (ap (read_at s position buffer) e ∙ f)

    pub read-refused : (n : Refusal) → refused n ≡ as_file s (start s path true) → Reads (read s path position buffer) n 0 buffer
    read-refused n e = reads (refused n) e (record { refusal_is = refl; count-is = refl; buffer-is = refl })

    pub read-file : (r : ℕ) → reached r ≡ as_file s (start s path true) → {n : ℕ} {b : List ℕ} → Copies s r position buffer n b → Reads (read s path position buffer) Accepted n b
    read-file r e {n} {b} c =
        reads (reached r) e
        (subst (λ (t : Bool). Reads (cond t (copied buffer (take (length buffer) (drop position (content (block_in s r))))) (unread (For IsDirectory) buffer)) Accepted n b)
        (sym (reached-file s _ r e).1) c.bytes)

  -- a point
  module _ (n : ℕ) where
    points : (x : Start) → x ≡ as_file s (start s path (within 1 4096 n)) → {m : Refusal} {b : List ℕ} → Points (point_at s n x) m b → Points (read_point s path n) m b
    unfolding read_point
    points x e {m} {b} =
        let f = over_file s (point_at s n) (λ r. point_of n (block_in s r)) (λ r. refl) (start s path (within 1 4096 n)) in
        subst (λ a. Points a m b) (ap (point_at s n) e ∙ f)

    pub point-refused : (m : Refusal) → refused m ≡ as_file s (start s path (within 1 4096 n)) → Points (read_point s path n) m (zeroed 16)
    point-refused m e = points (refused m) e (record { refusal_is = refl; bytes-is = refl })

    pub point-file : (r : ℕ) → reached r ≡ as_file s (start s path (within 1 4096 n)) → {k : Refusal} {b : List ℕ} → Points (point_of n (block_in s r)) k b → Points (read_point s path n) k b
    point-file r e {k} {b} a =
        points (reached r) e (subst (λ (t : Bool). Points (cond t (point_of n (block_in s r)) (no_point (For IsDirectory))) k b) (sym (reached-file s _ r e).1) a)

    -- what is reached has allowed numbers, so a point's is within its bounds
    pub reached-number : (r : ℕ) → reached r ≡ as_file s (start s path (within 1 4096 n)) → (0 < n) × (n < 4097)
    unfolding start
    reached-number r e =
        let f = reached_opened (opening s path (within 1 4096 n)) _ r (reached-file s _ r e).0 in
        let a = and_true (leb 1 n) (leb n 4096) (opened s path (within 1 4096 n) f.0).2 in
        omega (arith, leb-true 1 n a.0, leb-true n 4096 a.1)

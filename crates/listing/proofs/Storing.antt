-- Lines as numbers, stored one after the other.
use Prim.Native.Nat.{◌*◌, ◌+◌, ◌-◌, ◌/◌, ◌<◌, ◌≤◌, min, suc, zero, ℕ}
use mathlib.Core.Bool.{Bool, false, true}
use mathlib.Core.List.{List, [], ◌++◌, ◌∷◌, append_assoc, append-nil}
use mathlib.Core.Path.{◌∙◌, ◌≡◌, ap, refl, subst, sym}
use native.Mathlib.Omega.{arith}
use lib.Dec.{leb}
use lib.ListN.{length, length-append, length-take, set, take}
use lib.Seq.{take_all, take-nil}
use borrow.Author.Tests.{leb-false, leb-true}
use Rattle.storage.specs.Bytes.{splice}
use Rattle.storage.proofs.Splice.{length-splice, sets_splice, splice-append, splice_none}
use Rattle.alloc.specs.Volume.{objects, volume_of}
use Rattle.calls.specs.Reading.{block_in}
use Rattle.tree.specs.Fields.{is_dir}
use Rattle.listing.specs.declared.lines.Node.{Node}
use Rattle.listing.specs.Nodes.{levels, lines_at, lines_in, own_line}
use Rattle.listing.specs.Numbers.{Stores, StoresTo, numbers_of, seven_of}
use Rattle.listing.proofs.Held.{count-file, held_none, own_first}
use Rattle.history.specs.Listing.{Line}

-- seven stores
pub store_seven : (s : List ℕ) (p a b c d e f g : ℕ) → p + 7 ≤ length s
    → set (set (set (set (set (set (set s p a) (p + 1) b) (p + 2) c) (p + 3) d) (p + 4) e) (p + 5) f) (p + 6) g ≡ splice s p (a ∷ b ∷ c ∷ d ∷ e ∷ f ∷ g ∷ [])
store_seven s p a b c d e f g h =
    let k1 : p + 1 ≡ suc p = omega arith in
    let k2 : p + 2 ≡ suc (suc p) = omega arith in
    let k3 : p + 3 ≡ suc (suc (suc p)) = omega arith in
    let k4 : p + 4 ≡ suc (suc (suc (suc p))) = omega arith in
    let k5 : p + 5 ≡ suc (suc (suc (suc (suc p)))) = omega arith in
    let k6 : p + 6 ≡ suc (suc (suc (suc (suc (suc p))))) = omega arith in
    rw (k1, k2, k3, k4, k5, k6) (sets_splice (a ∷ b ∷ c ∷ d ∷ e ∷ f ∷ g ∷ []) s p h)

-- ---- rows of lines

numbers_append : (xs ys : List Line) → numbers_of (xs ++ ys) ≡ numbers_of xs ++ numbers_of ys
unfolding numbers_of
numbers_append [] ys = refl
numbers_append (l ∷ xs) ys = ap (λ (v : List ℕ). seven_of l ++ v) (numbers_append xs ys) ∙ sym (append_assoc (seven_of l) (numbers_of xs) (numbers_of ys))

length_numbers : (xs : List Line) → length (numbers_of xs) ≡ 7 * length xs
unfolding numbers_of
length_numbers [] = refl
length_numbers (l ∷ xs) = omega (arith, length_numbers xs)

-- of two rows behind each other
take-both : (xs ys : List Line) (k : ℕ) → take k (xs ++ ys) ≡ take k xs ++ take (k - length xs) ys
take-both [] ys k = let q : k ≡ k - 0 = omega arith in ap (λ (m : ℕ). take m ys) q ∙ sym (ap (λ (v : List Line). v ++ take (k - 0) ys) (take-nil k))
take-both (x ∷ xs) ys zero = let q : 0 - suc (length xs) ≡ 0 = omega arith in sym (ap (λ (m : ℕ). take m ys) q)
take-both (x ∷ xs) ys (suc k) =
    let q : k - length xs ≡ suc k - suc (length xs) = omega arith in
    ap (λ (v : List Line). x ∷ v) (take-both xs ys k ∙ ap (λ (m : ℕ). take k xs ++ take m ys) q)

-- ---- lines that are stored

pub stores_none : (n i : ℕ) (m : List ℕ) → StoresTo n i [] m i m
unfolding numbers_of
stores_none n i m = record {
  next = omega arith;
  stored = sym (ap (λ (v : List Line). splice m (7 * i) (numbers_of v)) (take-nil (n - i)) ∙ splice_none m (7 * i));
  same_size = refl;
}

-- one line: it is stored, or it is past the last
pub stores_line : (n i : ℕ) (m : List ℕ) → i < n → 7 * n ≤ length m → {k l : Line} → k ≡ l → {m' : List ℕ} → m' ≡ splice m (7 * i) (seven_of k)
    → StoresTo n i (l ∷ []) m (i + 1) m'
unfolding numbers_of
stores_line n i m h f {k} {l} q e = record {
  next = refl;
  stored = e ∙ ap (splice m (7 * i)) (ap seven_of q ∙ sym (ap numbers_of (take_all (n - i) (l ∷ []) (omega arith)) ∙ append-nil (seven_of l)));
  same_size = ap length e ∙ length-splice m (seven_of k) (7 * i) (omega arith);
}

pub stores_past : (n i : ℕ) (l : Line) (m : List ℕ) → n ≤ i → StoresTo n i (l ∷ []) m (i + 1) m
unfolding numbers_of
stores_past n i l m h =
    let z : n - i ≡ 0 = omega arith in
    record {
      next = refl;
      stored = sym (ap (λ (k : ℕ). splice m (7 * i) (numbers_of (take k (l ∷ [])))) z ∙ splice_none m (7 * i));
      same_size = refl;
    }

-- two rows, one after the other
module _ {n i j : ℕ} {xs ys : List Line} {m m' : List ℕ} (f : 7 * n ≤ length m) (v : StoresTo n i xs m j m') where
  pub stores_both : {k : ℕ} {m'' : List ℕ} → StoresTo n j ys m' k m'' → StoresTo n i (xs ++ ys) m k m''
  unfolding numbers_of
  stores_both {k} {m''} w = record {
    next = omega (arith, v.next, w.next, length-append xs ys);
    stored = w.stored ∙ ap (λ (u : List ℕ). splice u (7 * j) (numbers_of (take (n - j) ys))) v.stored ∙ go (leb j n) refl;
    same_size = w.same_size ∙ v.same_size;
  }
    where
      q : n - j ≡ n - i - length xs
      q = omega (arith, v.next)

      p : numbers_of (take (n - i) (xs ++ ys)) ≡ numbers_of (take (n - i) xs) ++ numbers_of (take (n - j) ys)
      p = ap numbers_of (take-both xs ys (n - i) ∙ ap (λ (t : ℕ). take (n - i) xs ++ take t ys) (sym q)) ∙ numbers_append (take (n - i) xs) (take (n - j) ys)

      x : List ℕ
      x = numbers_of (take (n - i) xs)

      lx : length x ≡ 7 * min (n - i) (length xs)
      lx = length_numbers (take (n - i) xs) ∙ ap (λ (t : ℕ). 7 * t) (length-take (n - i) xs)

      go : (t : Bool) → leb j n ≡ t
          → splice (splice m (7 * i) x) (7 * j) (numbers_of (take (n - j) ys)) ≡ splice m (7 * i) (numbers_of (take (n - i) (xs ++ ys)))
      -- all of the first are stored, and the second behind them
      go true e =
          let s : j ≤ n = leb-true j n e in
          let a : 7 * j ≡ 7 * i + length x = omega (arith, v.next, lx) in
          ap (λ (t : ℕ). splice (splice m (7 * i) x) t (numbers_of (take (n - j) ys))) a
          ∙ sym (splice-append m x (numbers_of (take (n - j) ys)) (7 * i) (omega (arith, lx)))
          ∙ ap (splice m (7 * i)) (sym p)
      -- none of the second are stored
      go false e =
          let s : n < j = leb-false j n e in
          let z : n - j ≡ 0 = omega (arith, v.next) in
          ap (λ (t : ℕ). splice (splice m (7 * i) x) (7 * j) (numbers_of (take t ys))) z
          ∙ splice_none (splice m (7 * i) x) (7 * j)
          ∙ ap (splice m (7 * i)) (sym (p ∙ ap (λ (t : ℕ). x ++ numbers_of (take t ys)) z ∙ append-nil x))

-- the rows have the same room
as_long : (v : List ℕ) {u : List ℕ} → length u ≡ length v → {i k : ℕ} {ls : List Line} {m : List ℕ} → Stores i ls u k m → StoresTo (length v / 7) i ls u k m
as_long v {u} e {i} {k} {ls} {m} w = subst (λ (t : ℕ). StoresTo t i ls u k m) (ap (λ (t : ℕ). t / 7) e) w

-- an object: its own line, and what its slots hold
module _ (s : List ℕ) (x : Node) {i : ℕ} {m m' : List ℕ} (v : Stores i (own_line s x ∷ []) m (i + 1) m') where
  own_lines : lines_at s x ≡ own_line s x ∷ lines_in s x 0
  own_lines = own_first (objects (volume_of s)) x.at.0 x.parent.0 x.name.0 x.depth (levels x.depth)

  pub stores_object : {k : ℕ} {m'' : List ℕ} → Stores (i + 1) (lines_in s x 0) m' k m'' → Stores i (lines_at s x) m k m''
  stores_object {k} {m''} w = subst (λ (ls : List Line). Stores i ls m k m'') (sym own_lines) (stores_both (omega arith) v (as_long m v.same_size w))

  -- a file: its own line alone
  pub stores_file : is_dir (block_in s x.at.0) ≡ false → Stores i (lines_at s x) m (i + 1) m'
  stores_file e =
      subst (λ (ls : List Line). Stores i ls m (i + 1) m')
      (sym (own_lines ∙ ap (λ (ls : List Line). own_line s x ∷ ls)
      (held_none (objects (volume_of s)) x.at.0 x.depth (levels x.depth) 0 (omega (arith, count-file (block_in s x.at.0) (levels x.depth) e))))) v

-- room for all is room for what follows the first
pub object-behind : (s : List ℕ) (x : Node) (i : ℕ) {m : ℕ} → i + length (lines_at s x) ≤ m → i + 1 + length (lines_in s x 0) ≤ m
object-behind s x i h = omega (arith, ap length (own_first (objects (volume_of s)) x.at.0 x.parent.0 x.name.0 x.depth (levels x.depth)))

-- ---- the loop over the slots

-- the lines of the slots that are passed are stored; those of the others are to come
pub record Storing (i : ℕ) (all rest : List Line) (before : List ℕ) (at : ℕ) (now : List ℕ) : Type 0 where
  pub carry : {k : ℕ} {m : List ℕ} → StoresTo (length before / 7) at rest now k m → Stores i all before k m
  pub left : at + length rest ≡ i + length all
  pub same_size : length now ≡ length before

module _ {i : ℕ} {all rest : List Line} {before : List ℕ} {at : ℕ} {now : List ℕ} (w : Storing i all rest before at now) where
  pub storing_as : {xs : List Line} → rest ≡ xs → Storing i all xs before at now
  storing_as e = subst (λ (v : List Line). Storing i all v before at now) e w

  pub storing_end : rest ≡ [] → Stores i all before at now
  storing_end e = (storing_as e).carry (stores_none (length before / 7) at now)

  pub storing_on : (xs ys : List Line) → rest ≡ xs ++ ys → {k : ℕ} {m : List ℕ} → Stores at xs now k m → Storing i all ys before k m
  storing_on xs ys e v = record {
    carry = λ u. (storing_as e).carry (stores_both (omega (arith, w.same_size)) (as_long before w.same_size v) u);
    left = omega (arith, w.left, v.next, ap length e, length-append xs ys);
    same_size = v.same_size ∙ w.same_size;
  }

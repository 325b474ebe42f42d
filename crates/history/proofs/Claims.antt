-- The claim of demand 3, of every image that holds a book.
use Prim.Native.Nat.{◌*◌, ◌<◌, ◌≤◌, suc, ℕ}
use mathlib.Core.Bool.{Bool, false, true}
use mathlib.Core.List.Memᴰ
use mathlib.Core.List.{List, Memᴰ, ◌++◌, ◌∷◌}
use mathlib.Core.Logic.{◌⊎◌, inl, inr}
use mathlib.Core.Path.{◌∙◌, ◌≡◌, ap, refl}
use native.Mathlib.Omega.{arith}
use lib.Dec.{leb}
use lib.ListN.{drop, length, take}
use lib.Seq.{take-append_seam}
use borrow.Author.Tests.{le-leb, leb-false, leb-true, lt-leb}
use Rattle.storage.specs.Bytes.{u64_at}
use Rattle.alloc.specs.Volume.{Objects, objects, volume_of}
use Rattle.calls.specs.declared.refusal.Reason.TheVariants.{TooFewLines}
use Rattle.calls.specs.Refusal.{Accepted, For}
use Rattle.history.specs.Listing.{Line, Listed, lines_of, list, object_lines}
use Rattle.history.specs.Book.{Tree}
use Rattle.history.specs.Claim.{Claim, Each, both, chain_from, entries, line_owners, neither, owned, owner_at, owners}
use Rattle.history.proofs.Good.{Good}
use Rattle.history.proofs.Holds.{good_formed}
use Rattle.history.proofs.Owning.{owned_once}
use Rattle.history.proofs.Answering.{reads, reads-point, shows}
use Rattle.history.proofs.Shown.{Matches, listing_matches}
use Rattle.history.proofs.Units.{owned-append, owned-listing}

-- ---- two lists one by one

-- as many
each-length : {A B : Type 0} {R : A → B → Type 0} {xs : List A} {ys : List B} → Each R xs ys → length xs ≡ length ys
each-length neither = refl
each-length (both r e) = ap suc (each-length e)

-- another relation
each_map : {A B : Type 0} {R S : A → B → Type 0} {xs : List A} {ys : List B} → ((a : A) (b : B) → R a b → S a b) → Each R xs ys
    → Each S xs ys
each_map f neither = neither
each_map f (both {a = a} {b = b} r e) = both (f a b r) (each_map f e)

-- the partner of a member
each_member : {A B : Type 0} {R : A → B → Type 0} {xs : List A} {ys : List B} (b : B) → Each R xs ys → Memᴰ b ys → (a : A) × R a b
each_member b neither m = absurd (Memᴰ.not-nil m)
each_member {A} {B} {R} b (both {a = a} {b = c} {ys = ys} r e) m = go (Memᴰ.cases_cons m) (each_member b e)
  where
    go : (b ≡ c) ⊎ Memᴰ b ys → (Memᴰ b ys → (a : A) × R a b) → (a : A) × R a b
    go (inl p) k = (a, rw p r)
    go (inr p) k = k p

-- ---- the listing

module _ (n : ℕ) (s : List ℕ) (t : Tree) (g : Good n s t) where
  abbrev os : Objects
  os = objects (volume_of s)

  abbrev root : ℕ
  root = (volume_of s).root

  abbrev lines : List Line
  lines = lines_of s

  lines_are : lines_of s ≡ object_lines 16 os root root 0 0
  unfolding lines_of
  lines_are = refl

  -- the lines match the entries
  matched : Each (Matches os root g.block g.node) lines (entries t)
  matched = rw (lines_are, ← g.book) (listing_matches os root g.block g.node g.rep)

  -- as many
  as_many : length lines ≡ length (entries t)
  as_many = each-length matched

  module _ (lent : List Line) where
    -- lent enough lines, or one too few
    listed-long : length (entries t) ≤ length lent
        → list s lent ≡ record { refusal = Accepted; count = length lines; lines = lines ++ drop (length lines) lent }
    unfolding list
    listed-long h = rw (list, good_formed n s t g, le-leb (length lines) (length lent) (omega (arith, as_many)))

    listed-short : length lent < length (entries t) → list s lent ≡ record { refusal = For TooFewLines; count = length lines; lines = lent }
    unfolding list
    listed-short h = rw (list, good_formed n s t g, lt-leb (length lines) (length lent) (omega (arith, as_many)))

    -- the count either way
    count-is : (list s lent).count ≡ length (entries t)
    count-is = go (leb (length (entries t)) (length lent)) refl
      where
        go : (q : Bool) → leb (length (entries t)) (length lent) ≡ q → (list s lent).count ≡ length (entries t)
        go true e = ap (λ (l : Listed). l.count) (listed-long (leb-true (length (entries t)) (length lent) e)) ∙ as_many
        go false e = ap (λ (l : Listed). l.count) (listed-short (leb-false (length (entries t)) (length lent) e)) ∙ as_many

    -- the lines that were set
    front-is : length (entries t) ≤ length lent → take (length (entries t)) (list s lent).lines ≡ lines
    front-is h = rw (listed-long h, ← as_many) (take-append_seam lines (drop (length lines) lent))

  -- ---- units

  owners_are : (ls : List Line) → owners s ls ≡ owner_at s 0 ∷ (line_owners s ls ++ chain_from s (length s) (u64_at s 16))
  unfolding owners
  owners_are ls = refl

  -- every unit has one owner
  one_owner : (u : ℕ) → 16 * u < length s → owned u (owners s lines) ≡ 1
  unfolding owned
  one_owner u h =
      rw (owners_are lines, lines_are)
      (omega (
        arith,
        owned-append u (line_owners s (object_lines 16 os root root 0 0)) (chain_from s (length s) (u64_at s 16)),
        owned-listing s u os root g.block g.node g.rep,
        owned_once g.sound u h,
      ))

  -- ---- the claim

  pub claim : Claim s t
  claim = record {
    listed = λ lent h. ap (λ (l : Listed). l.refusal) (listed-long lent h);
    counted = count-is;
    shown = λ lent h. rw (front-is lent h) (each_map (λ l e. shows g {l = l} {e = e}) matched);
    short = λ lent h. ap (λ (l : Listed). l.refusal) (listed-short lent h);
    bytes = λ e i a b k. let x = each_member e matched i in reads g x.1.path x.1.ref (x.1.bytes a b k);
    points = λ e i a b k. let x = each_member e matched i in reads-point g x.1.path x.1.ref (x.1.bytes a b k);
    units = λ lent h u l. rw (front-is lent h) (one_owner u l);
  }

-- Calls on the path of an object of the book: find, read and read point.
use Prim.Native.Nat.{ℕ}
use mathlib.Core.Bool.{Bool, false, true}
use mathlib.Core.List.{List}
use mathlib.Core.Path.{◌∙◌, ◌≡◌, ap, refl, sym}
use native.Mathlib.Omega.{arith}
use lib.ListN.{drop, length, take}
use Rattle.path.specs.Path.{components}
use Rattle.alloc.specs.Tiling.{within}
use Rattle.alloc.specs.Volume.{objects, volume_of}
use Rattle.calls.specs.declared.refusal.Reason.TheVariants.{OutOfBounds}
use Rattle.calls.specs.Refusal.{Accepted, For}
use Rattle.calls.specs.Reading.{Found, block_in, copied, find, found_at, kind_of, point_at, read, read_at, read_point}
use Rattle.calls.specs.Walk.{Walk, at, opening, reached, refused, start, walk_from, walked}
use Rattle.calls.proofs.Checking.{formed_checked}
use Rattle.calls.proofs.Steps.{opening-bounds, opening_none, or_passed, or_refused_lem}
use Rattle.history.specs.Listing.{Line}
use Rattle.history.specs.Book.{Tree}
use Rattle.history.specs.Claim.{Entry, Shows, point_on}
use Rattle.history.proofs.Good.{Good}
use Rattle.history.proofs.Holds.{good_formed}
use Rattle.history.proofs.Nodes.{seek, walk_of}
use Rattle.history.proofs.Paths.{Way, way_components, way_valid}
use Rattle.history.proofs.Shown.{HasBytes, Matches}
use Rattle.history.proofs.Walks.{walk_is}

module _ {n : ℕ} {s : List ℕ} {t : Tree} (g : Good n s t) where
  -- what stands at the end of these names, in the tree
  abbrev pub where_to : List (List ℕ) → Walk
  where_to ws = walk_of (seek ws (volume_of s).root g.block g.node)

  -- ---- how a call on such a path begins

  module _ {p : List ℕ} {ws : List (List ℕ)} (w : Way p ws) where
    -- it reaches what the tree has there
    begins : (allowed : Bool) → allowed ≡ true → {r : ℕ} → where_to ws ≡ at r → start s p allowed ≡ reached r
    unfolding start
    begins allowed a e =
        let o = opening_none s p allowed (formed_checked s (good_formed n s t g)) (way_valid w) a in
        sym (or_passed (opening s p allowed) (walk_from s (components p)) o refl refl)
        ∙ ap (walk_from s) (way_components w)
        ∙ ap walked (walk_is (objects (volume_of s)) (volume_of s).root g.block g.node g.rep ws ∙ e)

    -- numbers that are not allowed
    begins_not : (allowed : Bool) → allowed ≡ false → start s p allowed ≡ refused (For OutOfBounds)
    unfolding start
    begins_not allowed a =
        sym (or_refused_lem (opening s p allowed) (walk_from s (components p)) (opening-bounds s p allowed (formed_checked s (good_formed n s t g)) (way_valid w) a)
        refl (λ z. omega arith))

    -- ---- find

    -- the ref and the kind of what is there
    finds : {r : ℕ} → where_to ws ≡ at r → find s p ≡ record { refusal = Accepted; at = r; kind = kind_of (block_in s r) }
    unfolding find
    finds e = ap (found_at s) (begins true refl e)

    -- ---- read and read point, on a file with the bytes x

    module _ {r : ℕ} (e : where_to ws ≡ at r) {x : List ℕ} (h : HasBytes (block_in s r) x) where
      -- its bytes from the position on
      pub reads : (position : ℕ) (buffer : List ℕ) → read s p position buffer ≡ copied buffer (take (length buffer) (drop position x))
      unfolding read
      reads position buffer = ap (read_at s position buffer) (begins true refl e) ∙ rw (h.is_file, h.content)

      -- its points
      pub reads-point : (number : ℕ) → read_point s p number ≡ point_on x number
      unfolding read_point
      reads-point number = go (within 1 4096 number) refl
        where
          go : (q : Bool) → within 1 4096 number ≡ q → point_at s number (start s p (within 1 4096 number)) ≡ point_on x number
          go true q = rw (begins (within 1 4096 number) q e, q, h.is_file, h.size, h.content)
          go false q = rw (begins_not (within 1 4096 number) q, q)

  -- ---- a line that matches an entry shows it

  pub shows : {l : Line} {e : Entry} → Matches (objects (volume_of s)) (volume_of s).root g.block g.node l e → Shows s l e
  shows m = record {
    depth = m.depth;
    kind = m.kind;
    found = ap (λ (f : Found). f.refusal) (finds m.path m.ref);
    ref = ap (λ (f : Found). f.at) (finds m.path m.ref);
    parent = ap (λ (f : Found). f.at) (finds m.above m.parent);
    top = m.top;
    name = m.name;
  }

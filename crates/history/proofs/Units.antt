-- The units that the lines of a listing own: those of the allocated blocks.
use Prim.Native.Nat.{◌+◌, ◌<◌, suc, ℕ}
use mathlib.Core.Bool.{◌&&◌, cond}
use mathlib.Core.List.{List, [], ◌++◌, ◌∷◌, append_assoc}
use mathlib.Core.Path.{◌≡◌, ap, refl, sym}
use native.Mathlib.Omega.{arith}
use lib.Dec.{eqb, leb, ltb}
use borrow.Author.Tests.{ne_eqb}
use Rattle.alloc.specs.Block.{Block, size_at, units_for}
use Rattle.alloc.specs.Volume.{Objects}
use Rattle.history.specs.Listing.{Line, line_of, object_lines}
use Rattle.history.specs.Claim.{Owner, line_owners, owned, owner_at}
use Rattle.history.proofs.Lines.{root-lines, row_lines}
use Rattle.history.proofs.Nodes.{Node, Rep, Stands, dir, empty, end, file, sum_of}
use Rattle.history.proofs.Sums.{Item, sum}

-- owners in two lists
pub owned-append : (u : ℕ) (xs ys : List Owner) → owned u (xs ++ ys) ≡ owned u xs + owned u ys
unfolding owned
owned-append u [] ys = omega arith
owned-append u (x ∷ xs) ys = omega (arith, owned-append u xs ys)

-- and of two lists of lines
line-append : (s : List ℕ) (xs ys : List Line) → line_owners s (xs ++ ys) ≡ line_owners s xs ++ line_owners s ys
unfolding line_owners
line-append s [] ys = refl
line-append s (l ∷ xs) ys =
    ap (λ (x : List Owner). owner_at s l.ref ∷ x)
    (rw (line-append s xs ys)
    (sym (append_assoc (cond (eqb l.name 0) [] (owner_at s l.name ∷ [])) (line_owners s xs) (line_owners s ys))))

-- one where unit u is among those from r on, up to e and without it
abbrev pub covers : ℕ → ℕ → ℕ → ℕ
covers u r e = cond (leb r u && ltb u e) 1 0

-- one where the block at a ref owns it
abbrev pub owns : List ℕ → ℕ → Item → ℕ
owns s u o = covers u o.0 (o.0 + units_for (size_at s o.0))

module _ (s : List ℕ) (u : ℕ) where
  -- a line's name and object
  owned-line : (r up n d : ℕ) (a b : Block) (ls : List Line) → 0 < n
      → owned u (line_owners s (line_of r up n d b ∷ ls)) ≡ owns s u (n, a) + owns s u (r, b) + owned u (line_owners s ls)
  unfolding line_owners owned line_of
  owned-line r up n d a b ls h = rw (ne_eqb n 0 (λ e. omega arith)) (omega arith)

  -- a row's lines own what its blocks do
  owned-row : (up d : ℕ) (c : Node) → Stands up c → owned u (line_owners s (row_lines up d c)) ≡ sum_of (owns s u) c
  unfolding owned line_owners
  owned-row up d end h = refl
  owned-row up d (empty t) h = owned-row up d t h
  owned-row up d (file n r a b t) h =
      omega (arith, owned-line r up n d a b (row_lines up d t) h.0.some, owned-row up d t h.3)
  owned-row up d (dir n r a b c t) h =
      omega (
        arith,
        owned-line r up n d a b (row_lines r (suc d) c ++ row_lines up d t) h.0.some,
        ap (owned u) (line-append s (row_lines r (suc d) c) (row_lines up d t)),
        owned-append u (line_owners s (row_lines r (suc d) c)) (line_owners s (row_lines up d t)),
        owned-row r (suc d) c h.3,
        owned-row up d t h.4,
      )

  -- all lines own what the objects do
  pub owned-listing : (os : Objects) (root : ℕ) (b : Block) (c : Node) → Rep os root b c
      → owned u (line_owners s (object_lines 16 os root root 0 0)) ≡ sum (owns s u) os
  unfolding line_owners owned line_of
  owned-listing os root b c p = rw (root-lines os root b c p) (omega (arith, owned-row root 1 c p.row, p.alike (owns s u)))

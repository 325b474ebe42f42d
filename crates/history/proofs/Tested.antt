-- A test that every block of a tree passes, which no object of the image then fails.
use Prim.Native.Nat.{◌+◌, ◌≤◌, ℕ}
use mathlib.Core.Bool.{Bool, cond, false, true}
use mathlib.Core.List.{[], ◌∷◌}
use mathlib.Core.Option.{Option, none, some}
use mathlib.Core.Path.{◌≡◌, refl}
use native.Mathlib.Omega.{arith}
use borrow.Author.Tests.{eq-eqb, eqb-true}
use Rattle.alloc.specs.Block.{Block}
use Rattle.alloc.specs.Volume.{Objects}
use Rattle.tree.specs.Fields.{is_dir, is_file, is_name}
use Rattle.tree.specs.Verdict.{breaker}
use Rattle.history.proofs.Nodes.{Among, FileNode, NameNode, Node, Rep, Stands, dir, empty, end, file, sum_of}
use Rattle.history.proofs.Sums.{Item, here, sum, times}
use Rattle.history.proofs.Walks.{among_top, of_dir, rest_of, row_of_lem}

-- ---- kinds exclude each other

-- a name
pub name_no_dir : (b : Block) → is_name b ≡ true → is_dir b ≡ false
name_no_dir b h = rw (eqb-true b.magic _ h)

pub name_no_file : (b : Block) → is_name b ≡ true → is_file b ≡ false
name_no_file b h = rw (eqb-true b.magic _ h)

-- a file
pub file_no_name : (b : Block) → is_file b ≡ true → is_name b ≡ false
file_no_name b h = rw (eqb-true b.magic _ h)

-- a directory
pub dir_no_name : (b : Block) → is_dir b ≡ true → is_name b ≡ false
dir_no_name b h = rw (eqb-true b.magic _ h)

pub dir_no_file : (b : Block) → is_dir b ≡ true → is_file b ≡ false
dir_no_file b h = rw (eqb-true b.magic _ h)

-- ---- no block fails

-- one where the test fails
abbrev bad : (ℕ → Block → Bool) → Item → ℕ
bad p o = cond (p o.0 o.1) 0 1

-- a block that passes counts for nothing
bad_none : (p : ℕ → Block → Bool) (r : ℕ) (b : Block) → p r b ≡ true → bad p (r, b) ≡ 0
bad_none p r b h = rw h

-- where none is counted, none fails
no_breaker : (p : ℕ → Block → Bool) (os : Objects) → sum (bad p) os ≡ 0 → breaker p os ≡ none
unfolding breaker
no_breaker p [] h = refl
no_breaker p (o ∷ os) h = go (p o.0 o.1) h (no_breaker p os)
  where
    go : (q : Bool) → cond {A = ℕ} q 0 1 + sum (bad p) os ≡ 0 → (sum (bad p) os ≡ 0 → breaker p os ≡ none)
        → ◌≡◌ {A = Option ℕ} (elim q as (λ _. Option ℕ) [ true ↦ breaker p os | false ↦ some o.0 ]) none
    go true h' f = f (omega arith)
    go false h' f = absurd (omega arith)

-- a block counts where it is
pub here_self : (r : ℕ) (b : Block) → here r (r, b) ≡ 1
here_self r b = rw (eq-eqb r r refl)

-- nothing need be known of a row
abbrev pub Nothing : ℕ → Node → Type 0
Nothing up c = Unit {0}

-- what is known of a row goes with it, to its rest and to the rows below
module _ (os : Objects) (once : (r : ℕ) → times r os ≤ 1) (p : ℕ → Block → Bool) (Known : ℕ → Node → Type 0)
    (onName : (n : ℕ) (a : Block) → 1 ≤ times n os → NameNode n a → p n a ≡ true)
    (onFile : (r : ℕ) (b : Block) → 1 ≤ times r os → FileNode r b → p r b ≡ true)
    (pastEmpty : (up : ℕ) (t : Node) → Known up (empty t) → Known up t)
    (pastFile : (up n r : ℕ) (a b : Block) (t : Node) → Known up (file n r a b t) → Known up t)
    (pastDir : (up n r : ℕ) (a b : Block) (c t : Node) → Known up (dir n r a b c t) → Known up t)
    (onDir : (up n r : ℕ) (a b : Block) (c t : Node) → 1 ≤ times r os → Stands up (dir n r a b c t) → Among os (dir n r a b c t)
    → Known up (dir n r a b c t) → (p r b ≡ true) × Known r c) where
  -- no block of a row fails
  row_good : (up : ℕ) (c : Node) → Stands up c → Among os c → Known up c → sum_of (bad p) c ≡ 0
  row_good up end s h k = refl
  row_good up (empty t) s h k = row_good up t s h (pastEmpty up t k)
  row_good up (file n r a b t) s h k =
      omega (
        arith,
        bad_none p n a (onName n a (omega (arith, h (here n), here_self n a)) s.0),
        bad_none p r b (onFile r b (omega (arith, h (here r), here_self r b)) s.1),
        row_good up t s.3 (rest_of os once n r a b t h) (pastFile up n r a b t k),
      )
  row_good up (dir n r a b c t) s h k =
      let d = onDir up n r a b c t (omega (arith, h (here r), here_self r b)) s h k in
      omega (
        arith,
        bad_none p n a (onName n a (omega (arith, h (here n), here_self n a)) s.0),
        bad_none p r b d.0,
        row_good r c s.3 (row_of_lem os once n r a b c t h) d.1,
        row_good up t s.4 (rest_of os once n r a b t (of_dir os once n r a b c t h)) (pastDir up n r a b c t k),
      )

  -- nor of the tree
  pub all_good : (root : ℕ) (b : Block) (c : Node) → Rep os root b c → p root b ≡ true → Known root c → breaker p os ≡ none
  all_good root b c q h k =
      no_breaker p os (omega (arith, q.alike (bad p), bad_none p root b h, row_good root c q.row (among_top os root b c q) k))

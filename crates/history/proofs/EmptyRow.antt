-- A row of empty slots: what a new directory holds.
use Prim.Native.Nat.{suc, zero, ℕ}
use mathlib.Core.Path.{◌≡◌, ap, refl}
use Rattle.history.specs.Book.{Tree, empty_slots}
use Rattle.history.proofs.Nodes.{Node, Stands, book_of, empty, end, height, sum_of}
use Rattle.history.proofs.Sums.{Item}

abbrev pub empty_row : ℕ → Node
empty_row zero = end
empty_row (suc k) = empty (empty_row k)

-- its book, its sum, its height; and it stands
pub empty-book : (k : ℕ) → book_of (empty_row k) ≡ empty_slots k
unfolding empty_slots
empty-book zero = refl
empty-book (suc k) = ap Tree.empty (empty-book k)

pub empty-sum : (f : Item → ℕ) (k : ℕ) → sum_of f (empty_row k) ≡ 0
empty-sum f zero = refl
empty-sum f (suc k) = empty-sum f k

pub empty_height : (k : ℕ) → height (empty_row k) ≡ 0
empty_height zero = refl
empty_height (suc k) = empty_height k

pub empty_stands : (up k : ℕ) → Stands up (empty_row k)
empty_stands up zero = tt
empty_stands up (suc k) = empty_stands up k

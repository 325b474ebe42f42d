-- The numbers of a listing, as they are told.
use Prim.Native.Nat.{◌*◌, ◌-◌, ◌/◌, ℕ}
use native.Mathlib.Omega.{arith}
use mathlib.Core.Bool.{Bool, cond}
use mathlib.Core.List.{List, []}
use mathlib.Core.Path.{◌∙◌, ◌≡◌, ap, subst, sym}
use lib.Dec.{eqb}
use lib.ListN.{length, take}
use lib.Seq.{take_all}
use Rattle.storage.specs.Bytes.{splice}
use Rattle.storage.proofs.Splice.{splice_none}
use Rattle.calls.specs.Refusal.{Accepted, Refusal, accepted}
use Rattle.history.specs.Listing.{Line, lines_of}
use Rattle.listing.specs.Answers.{AnswersFor}
use Rattle.listing.specs.Numbers.{Stores, numbers_of}
use Rattle.listing.proofs.Call.{all_fit, by_number}
use Rattle.sffs1.specs.Numbers.{Tells, TellsListed}

module _ {s before : List ℕ} {r : Refusal} {c : ℕ} (w : AnswersFor s (length before / 7) r c) {m p : ℕ} (d : Tells r m p) where
  listed_by : {after : List ℕ} → after ≡ splice before 0 (cond (accepted r) (numbers_of (lines_of s)) []) → TellsListed s before m c p after
  listed_by e = record {
    told = λ lent l. let x = w.answers lent l in (subst (λ (y : Refusal). Tells y m p) x.0 d, x.1);
    numbers_are = e ∙ ap (λ (k : ℕ). splice before 0 (cond (eqb k 0) (numbers_of (lines_of s)) [])) (sym d.number_is);
  }

  -- those of an accepted listing all fit
  pub listed_all : r ≡ Accepted → {t : List ℕ} → t ≡ s → {k : ℕ} {row after : List ℕ} → after ≡ row → Stores 0 (lines_of t) before k row → TellsListed s before m c p after
  listed_all e {t} i {k} {row} {after} j v =
      let q : Stores 0 (lines_of s) before k row = subst (λ (x : List ℕ). Stores 0 (lines_of x) before k row) i v in
      let z : 7 * 0 ≡ 0 = omega arith in
      let n : length before / 7 - 0 ≡ length before / 7 = omega arith in
      listed_by (j ∙ q.stored ∙ ap (λ (x : ℕ). splice before x (numbers_of (take (length before / 7 - 0) (lines_of s)))) z
      ∙ ap (λ (ls : List Line). splice before 0 (numbers_of ls)) (ap (λ (x : ℕ). take x (lines_of s)) n ∙ take_all (length before / 7) (lines_of s) (all_fit w e).2)
      ∙ ap (λ (x : Refusal). splice before 0 (cond (accepted x) (numbers_of (lines_of s)) [])) (sym e))

  -- none of a refused one
  pub listed_none : (r ≡ Accepted → ⊥) → {after : List ℕ} → after ≡ before → TellsListed s before m c p after
  listed_none h j =
      listed_by (j ∙ sym (splice_none before 0) ∙ ap (λ (t : Bool). splice before 0 (cond t (numbers_of (lines_of s)) [])) (sym (by_number w h)))

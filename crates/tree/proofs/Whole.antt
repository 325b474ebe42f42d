-- The check over marks, from one step to the next: what each requires, and the marks at the end.
use Prim.Native.Nat.{ℕ, zero, suc, ◌+◌, ◌*◌, ◌-◌, ◌/◌, ◌%◌, ◌<◌, ◌≤◌}
use mathlib.Core.List.{List, [], ◌∷◌, ◌++◌}
use mathlib.Core.Path.{◌≡◌, refl, ap, sym, ◌∙◌, subst}
use mathlib.Core.Bool.{Bool, true, false, ◌&&◌, cond}
use mathlib.Core.Option.{Option, none, some}
use native.Mathlib.Omega.{arith}
use native.Mathlib.Nat.{zero-add}
use lib.Dec.{eqb, leb}
use borrow.Author.Tests.{eq-eqb, ne_eqb, lt-leb}
use lib.ListN.{length, get_or, take, drop, length-replicate, length-map, get_or-map}
use lib.Seq.{ext_get_or, get_or-take, length-take-le}
use Rattle.storage.specs.Bytes.{splice, zeroed}
use Rattle.storage.proofs.Splice.{length-splice, splice-inside}
use Rattle.alloc.specs.Block.{Block, SF01, SFde, SFna, SFre, SFfr, units, blocks_of, block_of, units_for, size_at}
use Rattle.alloc.specs.Sound.{Tiled}
use Rattle.alloc.specs.Tiling.{length_allowed}
use Rattle.alloc.specs.Volume.{volume_of, objects, chained}
use Rattle.alloc.specs.Marks.{mark_of, marks_from, marks_of, Marked, Marking}
use Rattle.alloc.proofs.Tiles.{tiles_length}
use Rattle.alloc.proofs.Cuts.{length-parts, tiled-length, Cut, cut_start, cut_on}
use Rattle.tree.proofs.Visits.{Visits, visits_start, visits_on, visits_end, object_holds}
use Rattle.alloc.proofs.Marking.{marks_of_long}
use Rattle.tree.specs.Verdict.{Verdict, BlockRule, rule3, rule4, rule5, rule6, rule7, keeps, breaker_of, unbroken, block_rules, verdict_on, verdict, well_formed, marks_after}
use Rattle.tree.specs.Answers.{Ready, ObjectAt, KeepsAll, NoneBroken}
use Rattle.alloc.specs.declared.access.Block as handle
use Rattle.tree.specs.Fields.{slots}
use Rattle.tree.specs.Rules.{slots_stand, named_once, names_stand, file_stands}
use Rattle.tree.specs.Marks.{noted, Noted, Fresh, Countable, Annotated, Judges, Decides, trimmed}
use Rattle.tree.proofs.Noting.{noted_tells, noted-annotated, rule_4_at}
use Rattle.tree.proofs.Judging.{judged_tiling, judged_after, blocks-kept}

-- ---- the namings are counted
module _ {s m m' : List ℕ} {root : ℕ} (c : Countable s m root) (e : m' ≡ noted (objects (volume_of s)) m) where
  pub counted-annotated : Annotated s m m'
  counted-annotated = subst (Annotated s m) (sym e) (noted-annotated c)

  pub counted-noted : Noted s m'
  counted-noted = subst (Noted s) (sym e) (noted_tells c)

-- ---- rule 1's marks are fresh

mark_small : (m : ℕ) → mark_of m < 8
unfolding mark_of
mark_small m = go (eqb m SFde) (eqb m SFna) (eqb m SFre) (eqb m SFfr) (eqb m SF01)
  where
    go : (a b c d e : Bool) → cond a 2 (cond b 3 (cond c 4 (cond d 6 (cond e 1 0)))) < 8
    go true b c d e = omega arith
    go false true c d e = omega arith
    go false false true d e = omega arith
    go false false false true e = omega arith
    go false false false false true = omega arith
    go false false false false false = omega arith

zeros-small : (n k : ℕ) (x : List ℕ) → ((j : ℕ) → get_or x j 0 < 8) → get_or (zeroed n ++ x) k 0 < 8
zeros-small zero k x f = f k
zeros-small (suc n) zero x f = omega arith
zeros-small (suc n) (suc k) x f = zeros-small n k x f

marks-small : (bs : List Block) (k : ℕ) → get_or (marks_from bs) k 0 < 8
unfolding marks_from
marks-small [] k = omega arith
marks-small (b ∷ bs) zero = mark_small b.magic
marks-small (b ∷ bs) (suc k) = zeros-small (units b - 1) k (marks_from bs) (λ j. marks-small bs j)

module _ {s m' : List ℕ} (m : List ℕ) (t : Tiled s) (h : length s / 16 ≤ length m) (e : m' ≡ splice m 0 (marks_of s)) where
  long : length (marks_of s) ≡ length s / 16
  long = marks_of_long t

  mark_at : (k : ℕ) → 16 * k < length s → get_or m' k 0 ≡ get_or (marks_of s) k 0
  mark_at k l =
      let d = length-parts (length s) (tiled-length t) in
      ap (λ (x : List ℕ). get_or x k 0) e
      ∙ ap (λ (n : ℕ). get_or (splice m 0 (marks_of s)) n 0) (sym (zero-add k))
      ∙ splice-inside m (marks_of s) 0 k (omega (arith, long)) (omega (arith, long, d))

  small : (k : ℕ) → 16 * k < length s → get_or m' k 0 < 8
  unfolding marks_of
  small k l = subst (λ (n : ℕ). n < 8) (sym (mark_at k l)) (marks-small (blocks_of s) k)

  pub fresh_of : Fresh s m'
  fresh_of =
      let d = length-parts (length s) (tiled-length t) in
      record {
        marked = record {
          tiled = t;
          long = omega (arith, d, ap length e, length-splice m (marks_of s) 0 (omega (arith, long)));
          kinds = λ k l. below (get_or m' k 0) (small k l) ∙ mark_at k l;
        };
        uncounted = small;
      }
    where
      below : (n : ℕ) → n < 8 → n % 8 ≡ n
      below n l = omega arith

-- ---- the marks at the end

-- a new front, and what stood behind it
splice-front : (m x : List ℕ) (n : ℕ) → length x ≡ n → splice m 0 x ≡ x ++ drop n m
unfolding splice
splice-front m x n l = ap (λ (k : ℕ). x ++ drop k m) (zero-add (length x) ∙ l)

marked-trimmed : {s m : List ℕ} → Marked s m → trimmed (take (length s / 16) m) ≡ marks_of s
marked-trimmed {s} {m} w =
    ext_get_or 0 (trimmed (take n m)) (marks_of s) (l ∙ sym (marks_of_long w.tiled))
    (λ i h. get_or-map (λ x. x % 8) (take n m) i 0 ∙ ap (λ (x : ℕ). x % 8) (get_or-take n m i 0 (omega (arith, l))) ∙ w.kinds i (omega (arith, l)))
  where
    n : ℕ
    n = length s / 16

    l : length (trimmed (take n m)) ≡ n
    l = length-map (take n m) (λ x. x % 8) ∙ length-take-le n m (omega (arith, w.long))

module _ {s m m' : List ℕ} {v : Verdict} (d : Decides s m v m') where
  after-broken : (v.rule ≡ 0 → ⊥) → marks_after s ≡ zeroed (length s / 16)
  unfolding marks_after well_formed
  after-broken n = rw (ne_eqb (verdict s).rule 0 (λ e. n (ap (λ (x : Verdict). x.rule) d.verdict-is ∙ e)))

  after_kept : v.rule ≡ 0 → marks_after s ≡ marks_of s
  unfolding marks_after well_formed
  after_kept n = rw (eq-eqb (verdict s).rule 0 (sym (ap (λ (x : Verdict). x.rule) d.verdict-is) ∙ n))

  pub judges_broken : {m'' : List ℕ} → (v.rule ≡ 0 → ⊥) → m'' ≡ splice m' 0 (zeroed (length s / 16)) → Judges s m v m''
  judges_broken n e = record {
    verdict-is = d.verdict-is;
    marks_are =
        let u : List ℕ = zeroed (length s / 16) in
        e ∙ splice-front m' u _ (length-replicate (length s / 16) 0) ∙ ap (λ y. u ++ y) d.beyond ∙ sym
        (ap (splice m 0) (after-broken n) ∙ splice-front m u _ (length-replicate (length s / 16) 0));
  }

  pub judges_kept : {m'' : List ℕ} {k : ℕ} → v.rule ≡ 0 → k ≡ length s / 16 → m'' ≡ trimmed (take k m') → Judges s m v (m'' ++ drop k m')
  judges_kept {k = k} n u e =
      let w = d.kinds_are n in
      record {
        verdict-is = d.verdict-is;
        marks_are =
            ap (λ y. y ++ drop k m') e ∙ ap (λ k. trimmed (take k m') ++ drop k m') u
            ∙ ap (λ y. y ++ drop (length s / 16) m') (marked-trimmed w) ∙ ap (λ y. marks_of s ++ y) d.beyond ∙ sym
            (ap (splice m 0) (after_kept n) ∙ splice-front m (marks_of s) _ (marks_of_long w.tiled));
      }

-- ---- rule 1, then the others

module _ {s m m₁ : List ℕ} {o : Option ℕ} (w : Marking s m o m₁) where
  pub decides-broken : (r : ℕ) → o ≡ some r → Decides s m (record { rule = 1; place = r }) m₁
  decides-broken r e = record {
    verdict-is = judged_tiling s o r w.breaker e;
    kinds_are = λ z. absurd (omega arith);
    beyond = w.beyond;
  }

  module _ (e : o ≡ none) where
    pub whole-tiled : Tiled s
    whole-tiled = record { rule_1 = sym w.breaker ∙ e }

    pub whole_fresh : length s / 16 ≤ length m → Fresh s m₁
    whole_fresh h = fresh_of m whole-tiled h (w.marks e)

    pub decides-after : {v : Verdict} {m₂ : List ℕ} → v ≡ verdict_on (objects (volume_of s)) (volume_of s).root (chained s) → Annotated s m₁ m₂ → Decides s m v m₂
    decides-after q a = record {
      verdict-is = q ∙ judged_after s o w.breaker e;
      kinds_are = λ _. a.marked;
      beyond = a.beyond ∙ w.beyond;
    }

-- no image is so long
long_not : (n : ℕ) → 1048576 < n → length_allowed n ≡ false
unfolding length_allowed
long_not n h = rw (lt-leb n 1048576 h) (go (eqb (n % 16) 0) (leb 64 n))
  where
    go : (a b : Bool) → (a && (b && false)) ≡ false
    go true true = refl
    go true false = refl
    go false b = refl

pub judged_over : (s : List ℕ) → 1048576 < length s → record { rule = 1; place = 0 } ≡ verdict s
judged_over s h = judged_tiling s (some 0) 0 (tiles_length s (long_not (length s) h)) refl

pub countable : {s m : List ℕ} (root : ℕ) {o : Option ℕ} → Fresh s m → o ≡ breaker_of rule3 (objects (volume_of s)) root → o ≡ none → Countable s m root
countable root f e z = record { fresh = f; rule_3 = sym e ∙ z }

-- ---- one walk for rules 4 to 7

-- what an object is asked by rule 4, and what rule 6 relies on
pub ready-naming : {s m : List ℕ} {root r : ℕ} → Ready s m root → ObjectAt s r
    → eqb (get_or m r 0 / 8) (cond (eqb r root) 0 1) ≡ named_once (objects (volume_of s)) root r (block_of s r)
ready-naming {root = root} k o = rule_4_at k.noted-there o root

pub naming_told : {s m : List ℕ} {root r : ℕ} {t : Bool} → Ready s m root → ObjectAt s r → t ≡ eqb (get_or m r 0 / 8) (cond (eqb r root) 0 1)
    → t ≡ named_once (objects (volume_of s)) root r (block_of s r)
naming_told k o e = e ∙ ready-naming k o

-- rules 6 and 7, of a block of the image
module _ {s : List ℕ} (b : handle.Block) (e : b.image.now ≡ s) {t : Bool} where
  pub names_told : t ≡ names_stand (objects (volume_of b.image.now)) b.at.0 (block_of b.image.now b.at.0) → t ≡ names_stand (objects (volume_of s)) b.at.0 (block_of s b.at.0)
  names_told f = f ∙ ap (λ (x : List ℕ). names_stand (objects (volume_of x)) b.at.0 (block_of x b.at.0)) e

  pub file_told : t ≡ file_stands b.at.0 (block_of b.image.now b.at.0) → t ≡ file_stands b.at.0 (block_of s b.at.0)
  file_told f = f ∙ ap (λ (x : List ℕ). file_stands b.at.0 (block_of x b.at.0)) e

pub ready_slots : {s m : List ℕ} {root r : ℕ} → Ready s m root → ObjectAt s r → slots_stand (objects (volume_of s)) (slots (block_of s r)) ≡ true
ready_slots {s} {root = root} k o = object_holds (keeps rule3 (objects (volume_of s)) root) o k.rule_3

pub none_verdict : {s : List ℕ} {root : ℕ} → breaker_of rule3 (objects (volume_of s)) root ≡ none → NoneBroken s root → unbroken ≡ block_rules (objects (volume_of s)) root unbroken
none_verdict {s} {root} e k = sym (blocks-kept (objects (volume_of s)) root go unbroken)
  where
    go : (n : BlockRule) → breaker_of n (objects (volume_of s)) root ≡ none
    go rule3 = e
    go rule4 = k.each rule4 (λ q. let z : ◌≡◌ {A = ℕ} 0 1 = cc in omega arith)
    go rule5 = k.each rule5 (λ q. let z : ◌≡◌ {A = ℕ} 0 1 = cc in omega arith)
    go rule6 = k.each rule6 (λ q. let z : ◌≡◌ {A = ℕ} 0 1 = cc in omega arith)
    go rule7 = k.each rule7 (λ q. let z : ◌≡◌ {A = ℕ} 0 1 = cc in omega arith)

-- the walk at ref r
pub record WalksAll (s : List ℕ) (root r at : ℕ) : Type 0 where
  pub cut : Cut s r at
  pub each : (n : BlockRule) → (n ≡ rule3 → ⊥) → Visits (keeps n (objects (volume_of s)) root) s r at

pub walks_start : {s : List ℕ} (root : ℕ) → Tiled s → WalksAll s root 2 32
walks_start {s} root t = record { cut = cut_start t; each = λ n k. visits_start (keeps n (objects (volume_of s)) root) t }

module _ {s : List ℕ} {root r at : ℕ} (w : WalksAll s root r at) where
  pub walks_on : at < length s → KeepsAll s root r → (q a : ℕ) → q ≡ r + units_for (size_at s r) → a ≡ 16 * q → WalksAll s root q a
  walks_on h k q a e f = record {
    cut = cut_on w.cut h q a e f;
    each = λ n z. visits_on (w.each n z) h true (sym (k.each n z)) refl q a e f;
  }

  pub walks_end : length s ≤ at → NoneBroken s root
  walks_end h = record { each = λ n z. sym (visits_end (w.each n z) h) }

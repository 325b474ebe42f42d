-- What check answers, by the verdict and by its own number.
use Prim.Native.Nat.{◌+◌, ◌/◌, ◌<◌, ◌≤◌, ℕ}
use mathlib.Core.Bool.{Bool, cond, false, true}
use mathlib.Core.List.{List}
use mathlib.Core.Path.{◌∙◌, ◌≡◌, ap, refl, sym}
use native.Mathlib.Omega.{arith}
use lib.ListN.{length}
use borrow.Author.Tests.{eq-eqb, le-ltb, lt-ltb, ne_eqb}
use Rattle.storage.proofs.Numbers.{AllBytes}
use Rattle.tree.specs.declared.verdict.Rule.{Rule}
use Rattle.tree.specs.declared.verdict.Rule.TheVariants.{Tiling, Root, Slots, Naming, Depth, Names, Files, Chain}
use Rattle.tree.specs.Answers.{rule_number}
use Rattle.tree.specs.Marks.{Judges}
use Rattle.tree.specs.Verdict.{BlockRule, Verdict, rule3, rule4, rule5, rule6, rule7, verdict, well_formed}
use Rattle.tree.specs.WellFormed.{Judged, breaks, breaks_1, breaks_2, breaks_8, number, is_well_formed}
use Rattle.tree.proofs.Verdicts.{judged}
use Rattle.calls.specs.declared.refusal.Refusal as declared-refusal
use Rattle.calls.specs.declared.refusal.Refusal.TheVariants as told
use Rattle.calls.specs.declared.refusal.Reason.TheVariants.{TooFewMarks}
use Rattle.calls.specs.Answers.{Checks, refused_as}
use Rattle.calls.specs.Refusal.{Accepted, For, Refusal, accepted, broken, check, check_marked, refusal_of}

-- there are eight rules
pub judged_low : {s : List ℕ} {v : Verdict} → Judged s v → v.rule ≤ 8
judged_low (is_well_formed w) = omega arith
judged_low (breaks_1 n b) = omega arith
judged_low (breaks_2 t n) = omega arith
judged_low (breaks n t a k b) = low n
  where
    low : (n : BlockRule) → number n ≤ 8
    low rule3 = omega arith
    low rule4 = omega arith
    low rule5 = omega arith
    low rule6 = omega arith
    low rule7 = omega arith
judged_low (breaks_8 t a k n) = omega arith

-- by the rule's number
pub refusal_none : (v : Verdict) → v.rule ≡ 0 → Accepted ≡ refusal_of v
refusal_none v z = sym (ap (λ (t : Bool). cond t Accepted (broken v)) (eq-eqb v.rule 0 z))

pub refusal-broken : (v : Verdict) → (v.rule ≡ 0 → ⊥) → broken v ≡ refusal_of v
refusal-broken v z = sym (ap (λ (t : Bool). cond t Accepted (broken v)) (ne_eqb v.rule 0 z))

-- no rule has the number 0
pub rule-some : (n : Rule) → rule_number n ≡ 0 → ⊥
rule-some Tiling e = omega (arith, e)
rule-some Root e = omega (arith, e)
rule-some Slots e = omega (arith, e)
rule-some Naming e = omega (arith, e)
rule-some Depth e = omega (arith, e)
rule-some Names e = omega (arith, e)
rule-some Files e = omega (arith, e)
rule-some Chain e = omega (arith, e)

-- a refusal is not accepted
pub never_accepted : (r : declared-refusal.Refusal) → refused_as r ≡ Accepted → ⊥
never_accepted (told.Broken b) e = cc
never_accepted (told.For w) e = cc

module _ (s : List ℕ) where
  pub rule-low : AllBytes s → {v : Verdict} → v ≡ verdict s → v.rule ≤ 8
  rule-low h e = omega (arith, judged_low (judged s h), ap (λ (x : Verdict). x.rule) e)

  pub check-is : {v : Verdict} {r : Refusal} → v ≡ verdict s → r ≡ refusal_of v → r ≡ check s
  unfolding check
  check-is e f = f ∙ ap refusal_of e

  -- by what check answers
  pub checked_formed : Accepted ≡ check s → well_formed s ≡ true
  unfolding check well_formed
  checked_formed e = go (well_formed s) refl e
    where
      go : (q : Bool) → well_formed s ≡ q → Accepted ≡ cond q Accepted (broken (verdict s)) → well_formed s ≡ true
      go true h e = h
      go false h e = cc

  pub formed_checked : well_formed s ≡ true → Accepted ≡ check s
  unfolding check well_formed
  formed_checked e = sym (ap (λ (q : Bool). cond q Accepted (broken (verdict s))) e)

  pub checked_broken : (r : declared-refusal.Refusal) → refused_as r ≡ check s → well_formed s ≡ false
  unfolding check well_formed
  checked_broken r e = go (well_formed s) refl e
    where
      go : (q : Bool) → well_formed s ≡ q → refused_as r ≡ cond q Accepted (broken (verdict s)) → well_formed s ≡ false
      go true h e = absurd (never_accepted r e)
      go false h e = h

  pub check-refused : well_formed s ≡ false → accepted (check s) ≡ false
  unfolding check well_formed
  check-refused e = ap (λ (q : Bool). accepted (cond q Accepted (broken (verdict s)))) e ∙ ne_eqb (20 + (verdict s).rule) 0 (λ z. omega arith)

-- ---- over lent marks

pub checks_few : (s m : List ℕ) → length m < length s / 16 → Checks (check_marked s m) (For TooFewMarks) m
unfolding check_marked
checks_few s m h = rw (lt-ltb (length m) (length s / 16) h) (record { refusal_is = refl; marks_are = refl })

pub checks_judged : {s m m' : List ℕ} {v : Verdict} {r : Refusal} → length s / 16 ≤ length m → Judges s m v m' → r ≡ refusal_of v → Checks (check_marked s m) r m'
unfolding check_marked
checks_judged {s} {m} h j e =
    rw (le-ltb (length m) (length s / 16) h) (record { refusal_is = check-is s j.verdict-is e; marks_are = j.marks_are })

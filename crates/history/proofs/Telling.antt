-- Every call that looks at the image tells the lowest-numbered broken rule and its first breaker, and a place beside no other number.
use Rattle.changes.specs.Changing as changing
use Rattle.calls.specs.Reading as reading
use Rattle.calls.specs.Refusal as refusal
use Rattle.history.specs.Listing as listings
use Prim.Native.Nat.{◌*◌, ◌+◌, ◌/◌, suc, ℕ}
use mathlib.Core.Bool.{Bool, cond, false, true, true≢false}
use mathlib.Core.List.{List, [], ◌++◌, ◌∷◌}
use mathlib.Core.Option.{Option, none, some}
use mathlib.Core.Path.{◌∙◌, ◌≡◌, ap, refl, subst, sym}
use native.Mathlib.Omega.{arith}
use lib.Dec.{eqb, leb}
use lib.ListN.{drop, length}
use borrow.Author.Tests.{eq-eqb, le-ltb, leb-false, leb-true, lt-ltb, ne_eqb}
use Rattle.alloc.specs.Block.{units}
use Rattle.alloc.specs.Gaps.{tightest}
use Rattle.alloc.specs.Room.{PlacedPair, place_pair}
use Rattle.alloc.specs.Tiling.{length_allowed, within}
use Rattle.alloc.specs.Volume.{image, objects, volume_of}
use Rattle.tree.specs.Fields.{file_size, is_file, room, slot_at, slots, taken_count}
use Rattle.tree.specs.Verdict.{Verdict, verdict, well_formed}
use Rattle.tree.specs.WellFormed.{Judged}
use Rattle.tree.proofs.Verdicts.{judged, judged_only}
use Rattle.calls.specs.declared.refusal.Reason.{Reason}
use Rattle.calls.specs.declared.refusal.Reason.TheVariants.{Exists, IsDirectory, IsRoot, NoRoom, NoSlot, NotEmpty, NotFound, PastEnd, PastRoom, TooFewLines}
use Rattle.calls.specs.Refusal.{Accepted, For, Refusal, broken, place_of}
use Rattle.calls.specs.Reading.{block_in}
use Rattle.calls.specs.Walk.{empty_slot, last_name, slot_named}
use Rattle.changes.specs.Changing.{New, new_block, new_directory, new_name, set_slot, unchanged, unmade, with_root}
use Rattle.history.specs.Claim.{Bytes}
use Rattle.history.specs.History.{Call, check, check_marked, find, format, listing, make, read, read_point, remove, set_length, step, write}
use Rattle.history.specs.Telling.{EveryCallTells, OthersTellNone, TellsRule, looks}
use Rattle.history.proofs.Beginning.{Refuses, above_cases, by_image, by_reason, reason_bounds, start_cases}
use Rattle.history.proofs.FormatStep.{by_tests, format-is}

-- ---- what a call may tell of the image s

data Says (s : List ℕ) : Refusal → Type 0 where
  refuses : {r : Refusal} → Refuses s r → Says s r
  accepts : well_formed s ≡ true → Says s Accepted

-- it tells the rule
module _ (s : List ℕ) (h : Bytes s) where
  rule-is : (n p : ℕ) → Judged s (record { rule = n; place = p }) → ((verdict s).rule ≡ n) × ((verdict s).place ≡ p)
  rule-is n p j = let e = judged_only s _ j in (ap (λ (v : Verdict). v.rule) e, ap (λ (v : Verdict). v.place) e)

  judged_is : (n p : ℕ) → (verdict s).rule ≡ n → (verdict s).place ≡ p → Judged s (record { rule = n; place = p })
  judged_is n p a b =
      subst (λ (i : ℕ). Judged s (record { rule = n; place = i })) b
      (subst (λ (i : ℕ). Judged s (record { rule = i; place = (verdict s).place })) a (judged s h))

  formed-unbroken : well_formed s ≡ true → (n p : ℕ) → Judged s (record { rule = suc n; place = p }) → ⊥
  unfolding well_formed
  formed-unbroken e n p j = true≢false (sym e ∙ ne_eqb (verdict s).rule 0 (λ z. omega (arith, rule-is (suc n) p j)))

  unformed_broken : well_formed s ≡ false → (verdict s).rule ≡ 0 → ⊥
  unfolding well_formed
  unformed_broken e z = true≢false (sym (eq-eqb (verdict s).rule 0 z) ∙ e)

  tells : {r : Refusal} → Says s r → TellsRule s r
  tells (refuses (by_image e)) = record {
    told = λ n p j. (omega (arith, rule-is (suc n) p j), (rule-is (suc n) p j).1);
    only = λ n p a b. judged_is (suc n) p (omega arith) b;
    elsewhere = λ l. absurd (unformed_broken e (omega arith));
  }
  tells (refuses (by_reason e w)) = record {
    told = λ n p j. absurd (formed-unbroken e n p j);
    only = λ n p a b. absurd (omega (arith, reason_bounds w));
    elsewhere = λ l. refl;
  }
  tells (accepts e) = record {
    told = λ n p j. absurd (formed-unbroken e n p j);
    only = λ n p a b. absurd (omega arith);
    elsewhere = λ l. refl;
  }

-- ---- each call

module _ (s : List ℕ) where
  begins : (r : Refusal) → Refuses s r → Says s r
  begins r w = refuses w

  check-says : Says s (refusal.check s)
  unfolding refusal.check well_formed
  check-says = go (well_formed s) refl
    where
      go : (q : Bool) → well_formed s ≡ q → Says s (cond q Accepted (broken (verdict s)))
      go true e = accepts e
      go false e = refuses (by_image e)

  -- on an image that is well formed
  module _ (h : well_formed s ≡ true) where
    reason : (w : Reason) → Says s (For w)
    reason w = refuses (by_reason h w)

    -- one of two outcomes
    either : {A : Type 0} (f : A → Refusal) (q : Bool) {a b : A} → Says s (f a) → Says s (f b) → Says s (f (cond q a b))
    either f true x y = x
    either f false x y = y

    written-says : (r position : ℕ) (bytes : List ℕ) → Says s (changing.written s r position bytes).refusal
    written-says r position [] = accepts h
    written-says r position (y ∷ ys) = accepts h

    fill_says : (new : New) (w : List ℕ) (d i : ℕ) → Says s (changing.fill_slot s new w d i).refusal
    unfolding changing.fill_slot
    fill_says new w d i = go (place_pair tightest (new_name w) (new_block new d) (volume_of s).extents)
      where
        go : (o : Option PlacedPair) → Says s (elim o as (λ _. changing.Made) [
          | none ↦ unmade (For NoRoom) s
          | some x ↦ record { refusal = Accepted; at = x.object; image = image (with_root s (set_slot d i x.name x.object x.extents)) }
        ]).refusal
        go none = reason NoRoom
        go (some x) = accepts h

    make-says : (new : New) (w : List ℕ) (d : ℕ) → Says s (changing.make_in s new w d).refusal
    unfolding changing.make_in
    make-says new w d = by_name (slot_named (objects (volume_of s)) (block_in s d) w)
      where
        by_slot : (o : Option ℕ) → Says s (elim o as (λ _. changing.Made) [ none ↦ unmade (For NoSlot) s | some i ↦ changing.fill_slot s new w d i ]).refusal
        by_slot none = reason NoSlot
        by_slot (some i) = fill_says new w d i

        by_name : (o : Option ℕ) → Says s (elim o as (λ _. changing.Made) [
          | some i ↦ unmade (For Exists) s
          | none ↦ elim (empty_slot (block_in s d)) as (λ _. changing.Made) [ none ↦ unmade (For NoSlot) s | some i ↦ changing.fill_slot s new w d i ]
        ]).refusal
        by_name (some i) = reason Exists
        by_name none = by_slot (empty_slot (block_in s d))

    remove-says : (w : List ℕ) (d : ℕ) → Says s (changing.remove_in s w d).refusal
    unfolding changing.remove_in
    remove-says w d = by_name (slot_named (objects (volume_of s)) (block_in s d) w)
      where
        by_count : (i : ℕ) (q : Bool) → Says s (elim q as (λ _. changing.Outcome) [ false ↦ unchanged (For NotEmpty) s | true ↦ changing.done (changing.removed s d i) ]).refusal
        by_count i false = reason NotEmpty
        by_count i true = accepts h

        by_name : (o : Option ℕ) → Says s (elim o as (λ _. changing.Outcome) [
          | none ↦ unchanged (For NotFound) s
          | some i ↦ elim (eqb (taken_count (slots (block_in s (slot_at (block_in s d) i).1))) 0) as (λ _. changing.Outcome) [
            | false ↦ unchanged (For NotEmpty) s
            | true ↦ changing.done (changing.removed s d i)
          ]
        ]).refusal
        by_name none = reason NotFound
        by_name (some i) = by_count i (eqb (taken_count (slots (block_in s (slot_at (block_in s d) i).1))) 0)

  list-says : (lent : List listings.Line) → Says s (listings.list s lent).refusal
  unfolding listings.list
  list-says lent = by_image-first (well_formed s) refl
    where
      by_lines : well_formed s ≡ true → (q : Bool) → Says s (elim q as (λ _. listings.Listed) [
        | false ↦ record { refusal = For TooFewLines; count = length (listings.lines_of s); lines = lent }
        | true ↦ record { refusal = Accepted; count = length (listings.lines_of s); lines = listings.lines_of s ++ drop (length (listings.lines_of s)) lent }
      ]).refusal
      by_lines e false = reason e TooFewLines
      by_lines e true = accepts e

      by_image-first : (q : Bool) → well_formed s ≡ q → Says s (elim q as (λ _. listings.Listed) [
        | false ↦ record { refusal = refusal.check s; count = 0; lines = lent }
        | true ↦ elim (leb (length (listings.lines_of s)) (length lent)) as (λ _. listings.Listed) [
          | false ↦ record { refusal = For TooFewLines; count = length (listings.lines_of s); lines = lent }
          | true ↦ record { refusal = Accepted; count = length (listings.lines_of s); lines = listings.lines_of s ++ drop (length (listings.lines_of s)) lent }
        ]
      ]).refusal
      by_image-first false e = check-says
      by_image-first true e = by_lines e (leb (length (listings.lines_of s)) (length lent))

  says : (c : Call) → looks s c ≡ true → Says s (step s c).refusal
  unfolding step refusal.check_marked reading.find reading.read reading.read_point changing.make changing.write changing.set_length changing.remove
  says (format k) l = absurd (true≢false (sym l))
  says check l = check-says
  says (check_marked marks) l = rw (le-ltb (length marks) (length s / 16) (leb-true (length s / 16) (length marks) l)) check-says
  says (find p) l = start_cases (λ x. Says s (reading.found_at s x).refusal) s p true begins (λ r h v a e. accepts h)
  says (make p new) l =
      above_cases (λ x. Says s (changing.make_at s new (last_name p) x).refusal) s p (changing.allowed new) begins Exists
      (λ d h v a w ws c e k. make-says h new (last_name p) d)
  says (read p position buffer) l =
      start_cases (λ x. Says s (reading.read_at s position buffer x).refusal) s p true begins
      (λ r h v a e. either h (λ (x : reading.Read). x.refusal) (is_file (block_in s r)) (accepts h) (reason h IsDirectory))
  says (read_point p n) l =
      start_cases (λ x. Says s (reading.point_at s n x).refusal) s p (within 1 4096 n) begins
      (λ r h v a e. either h (λ (x : reading.Point). x.refusal) (is_file (block_in s r))
      (either h (λ (x : reading.Point). x.refusal) (leb (16 * n) (file_size (block_in s r))) (accepts h) (reason h PastEnd)) (reason h IsDirectory))
  says (write p position bytes) l =
      start_cases (λ x. Says s (changing.write_at s position bytes x).refusal) s p true begins
      (λ r h v a e. either h (λ (x : changing.Outcome). x.refusal) (is_file (block_in s r))
      (either h (λ (x : changing.Outcome). x.refusal) (leb (position + length bytes) (room (block_in s r))) (written-says h r position bytes) (reason h PastRoom)) (reason h IsDirectory))
  says (set_length p n) l =
      start_cases (λ x. Says s (changing.set_length_at s n x).refusal) s p true begins
      (λ r h v a e. either h (λ (x : changing.Outcome). x.refusal) (is_file (block_in s r))
      (either h (λ (x : changing.Outcome). x.refusal) (leb n (room (block_in s r))) (accepts h) (reason h PastRoom)) (reason h IsDirectory))
  says (remove p) l =
      above_cases (λ x. Says s (changing.remove_at s (last_name p) x).refusal) s p true begins IsRoot (λ d h v a w ws c e k. remove-says h (last_name p) d)
  says (listing lent) l = list-says lent

-- ---- the claim

pub every_call_tells : EveryCallTells
unfolding EveryCallTells
every_call_tells s h c l = tells s h (says s c l)

format_none : (s : List ℕ) (k : ℕ) → place_of (changing.format s k).refusal ≡ 0
format_none s k =
    subst (λ (o : changing.Outcome). place_of o.refusal ≡ 0) (sym (format-is s k))
    (go (length_allowed (length s)) (within 1 1024 k) (leb (32 + 16 * units (new_directory 2 k)) (length s)))
  where
    go : (x y z : Bool) → place_of (by_tests s k x y z).refusal ≡ 0
    go false y z = refl
    go true false z = refl
    go true true false = refl
    go true true true = refl

pub others_tell_none : OthersTellNone
unfolding OthersTellNone step refusal.check_marked
others_tell_none s (format k) l = format_none s k
others_tell_none s check l = absurd (true≢false l)
others_tell_none s (check_marked marks) l = rw (lt-ltb (length marks) (length s / 16) (leb-false (length s / 16) (length marks) l)) refl
others_tell_none s (find p) l = absurd (true≢false l)
others_tell_none s (make p new) l = absurd (true≢false l)
others_tell_none s (read p position buffer) l = absurd (true≢false l)
others_tell_none s (read_point p n) l = absurd (true≢false l)
others_tell_none s (write p position bytes) l = absurd (true≢false l)
others_tell_none s (set_length p n) l = absurd (true≢false l)
others_tell_none s (remove p) l = absurd (true≢false l)
others_tell_none s (listing lent) l = absurd (true≢false l)

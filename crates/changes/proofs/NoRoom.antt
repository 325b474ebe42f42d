-- Refusal 8 of make is exact.
use Prim.Native.Nat.{ℕ}
use mathlib.Core.Bool.{Bool, cond, false, true}
use mathlib.Core.List.{List, [], ◌∷◌}
use mathlib.Core.Logic.Iff
use mathlib.Core.Logic.{◌↔◌}
use mathlib.Core.Option.{Option, none, some}
use mathlib.Core.Path.{◌≡◌, ap, refl, subst}
use native.Mathlib.Omega.{arith}
use lib.Dec.{eqb}
use Rattle.path.specs.Path.{all_but_last, components, valid_path}
use Rattle.alloc.specs.Block.{units}
use Rattle.alloc.specs.Gaps.{tightest}
use Rattle.alloc.specs.Room.{PlacedPair, place_pair}
use Rattle.alloc.specs.Stretch.{TwoStretches}
use Rattle.alloc.specs.Volume.{objects, volume_of}
use Rattle.alloc.proofs.Choosing.{chooses_tightest}
use Rattle.alloc.proofs.Fitting.{pair_exact}
use Rattle.tree.specs.Fields.{is_dir}
use Rattle.tree.specs.Verdict.{verdict, well_formed}
use Rattle.calls.specs.declared.refusal.Reason.TheVariants.{BadPath, Exists, NoRoom, NotDirectory, OutOfBounds}
use Rattle.calls.specs.Refusal.{Accepted, For, accepted, broken, check, number_of}
use Rattle.calls.specs.Reading.{block_in}
use Rattle.calls.specs.Walk.{Start, Walk, above_last, as_directory, at, blocked, empty_slot, last_name, missing, opening, reached, refused, slot_named, start_above, walk, walked}
use Rattle.changes.specs.Changing.{New, allowed, fill_slot, make, make_at, make_in, new_block, new_name}
use Rattle.changes.specs.Crowded.{NoRoomFor}

-- ---- no beginning is refused with 8

abbrev Other : Start → Type 0
Other (refused r) = number_of r ≡ 8 → ⊥
Other (reached d) = Unit {0}

one_of : (t : Bool) (x y : Start) → Other x → Other y → Other (cond t x y)
one_of true x y a b = a
one_of false x y a b = b

module _ (s : List ℕ) where
  walk-other : (x : Walk) → Other (as_directory s (walked x))
  walk-other missing = λ e. omega arith
  walk-other blocked = λ e. omega arith
  walk-other (at d) = one_of (is_dir (block_in s d)) (reached d) (refused (For NotDirectory)) tt (λ e. omega arith)

  above_other : (ws : List (List ℕ)) → Other (above_last s Exists ws)
  above_other [] = λ e. omega arith
  above_other (w ∷ ws) = walk-other (walk (objects (volume_of s)) (volume_of s).root (all_but_last (w ∷ ws)))

  opening-other : (path : List ℕ) (a : Bool) → number_of (opening s path a) ≡ 8 → ⊥
  unfolding opening check
  opening-other path a = go (well_formed s) (valid_path path) a (eqb (verdict s).rule 0)
    where
      go : (a b c d : Bool) → number_of (cond a (cond b (cond c Accepted (For OutOfBounds)) (For BadPath)) (cond d Accepted (broken (verdict s)))) ≡ 8 → ⊥
      go true true true d e = omega arith
      go true true false d e = omega arith
      go true false c d e = omega arith
      go false b c true e = omega arith
      go false b c false e = omega arith

  start-other : (path : List ℕ) (a : Bool) → Other (start_above s path a Exists)
  unfolding start_above
  start-other path a =
      one_of (accepted (opening s path a)) (above_last s Exists (components path)) (refused (opening s path a)) (above_other (components path)) (opening-other path a)

-- ---- exact

module _ (s path : List ℕ) (new : New) where
  -- with a slot: no two stretches
  fill_exact : (d i : ℕ) → ((fill_slot s new (last_name path) d i).refusal ≡ For NoRoom)
      ↔ (TwoStretches (units (new_name (last_name path))) (units (new_block new d)) (volume_of s).extents → ⊥)
  unfolding fill_slot
  fill_exact d i =
      Iff.trans (go (place_pair tightest (new_name (last_name path)) (new_block new d) (volume_of s).extents) refl)
      (pair_exact chooses_tightest (new_name (last_name path)) (new_block new d) (volume_of s).extents)
    where
      go : (o : Option PlacedPair) → place_pair tightest (new_name (last_name path)) (new_block new d) (volume_of s).extents ≡ o
          → ((fill_slot s new (last_name path) d i).refusal ≡ For NoRoom) ↔ (o ≡ none)
      go none q = rw (q, fill_slot) (λ _. refl, λ _. refl)
      go (some x) q = rw (q, fill_slot) (λ e. absurd (omega (arith, ap number_of e)), λ e. let z : ◌≡◌ {A = ℕ} 0 1 = cc in absurd (omega arith))

  crowded : (x : Start) → start_above s path (allowed new) Exists ≡ x → (make_at s new (last_name path) x).refusal ≡ For NoRoom → NoRoomFor s path new
  unfolding make_in
  crowded (refused r) e f = absurd (subst Other e (start-other s path (allowed new)) (ap number_of f))
  crowded (reached d) e f = go (slot_named (objects (volume_of s)) (block_in s d) (last_name path)) (empty_slot (block_in s d)) refl refl
    where
      go : (o p : Option ℕ) → slot_named (objects (volume_of s)) (block_in s d) (last_name path) ≡ o → empty_slot (block_in s d) ≡ p → NoRoomFor s path new
      go (some j) p a b = absurd (omega (arith, ap number_of (rw (a, make_in) at f)))
      go none none a b = absurd (omega (arith, ap number_of (rw b at (rw (a, make_in) at f))))
      go none (some i) a b = record {
        directory = d;
        slot = i;
        reached_it = e;
        absent = a;
        vacant = b;
        no_stretches = (fill_exact d i).0 (rw b at (rw (a, make_in) at f));
      }

  -- make answers 8 exactly where there is no room for the name and the object: for every image, path and new object
  pub no_room_exact : ((make s path new).refusal ≡ For NoRoom) ↔ NoRoomFor s path new
  unfolding make make_in
  no_room_exact = (
    crowded (start_above s path (allowed new) Exists) refl,
    λ w. rw w.reached_it (rw (w.absent, make_in) (rw w.vacant ((fill_exact w.directory w.slot).1 w.no_stretches))),
  )

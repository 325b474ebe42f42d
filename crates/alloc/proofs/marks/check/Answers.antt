-- check: one block judged and marked in each turn.
use Rattle.alloc.proofs.Marking.{marks-start, marks_on, blank-long, marking_length, marking_long, marking_broken, marking_whole}
use Rattle.alloc.proofs.Tiles.{tiles_fits}
use Rattle.alloc.specs.Marks.{mark_of}
use mathlib.Core.Path.{ap, ◌∙◌, sym, refl}
use native.Mathlib.Omega.{arith}
use Rattle.alloc.proofs.marks.check.Goals as goal

pub length_allowed-requires : goal.length_allowed-requires
length_allowed-requires c = omega arith

pub shape_of-marks-then-not-length_allowed : goal.shape_of-marks-then-not-length_allowed
shape_of-marks-then-not-length_allowed c = blank-long _ _ c.requires c.clear.ensures

pub returns-then-not-length_allowed : goal.returns-then-not-length_allowed
returns-then-not-length_allowed c =
    marking_length _ _ c.requires c.clear.ensures
    (sym c.length_allowed.ensures ∙ c.if-not-length_allowed.true)

pub loop-at-init : goal.loop-at-init
loop-at-init c = rw c.start-at.ensures (marks-start _ (sym c.length_allowed.ensures ∙ c.if-not-length_allowed.false))

pub stands-requires : goal.stands-requires
stands-requires c = omega (arith, c.loop-at.invariant.tiles.place)

pub shape_of-marks-in_default : goal.shape_of-marks-in_default
shape_of-marks-in_default c =
    marking_long c.loop-at.invariant _ c.requires
    c.clear.ensures

pub returns-in_default : goal.returns-in_default
returns-in_default c =
    marking_broken c.loop-at.invariant _ c.requires
    c.clear.ensures (omega arith) _ (sym c.in_default.ensures) refl

pub bounds-marks-n : goal.bounds-marks-n
bounds-marks-n c =
    omega (
      arith,
      tiles_fits c.loop-at.invariant.tiles (omega arith) _ (sym c.in-Some.ensures.0) refl,
      marking_long c.loop-at.invariant _
          c.requires
          c.clear.ensures,
      c.requires,
    )

pub invariant_of-after : goal.invariant_of-after
invariant_of-after c = record { inside = omega (arith, tiles_fits c.loop-at.invariant.tiles (omega arith) _ (sym c.in-Some.ensures.0) refl) }

pub start-at-requires-in-loop-at : goal.start-at-requires-in-loop-at
start-at-requires-in-loop-at c =
    omega (
      arith,
      tiles_fits c.loop-at.invariant.tiles (omega arith) _ (sym c.in-Some.ensures.0) refl,
      c.after-r.ensures,
    )

pub loop-at-smaller : goal.loop-at-smaller
loop-at-smaller c =
    omega (
      arith,
      c.loop-at.invariant.tiles,
      tiles_fits c.loop-at.invariant.tiles
          (omega arith) _ (sym c.in-Some.ensures.0) refl,
    )

pub loop-at-preserved : goal.loop-at-preserved
loop-at-preserved c =
    marks_on c.loop-at.invariant (omega arith) _ (sym c.in-Some.ensures.0)
    refl _ _ refl (c.mark_of.ensures ∙ ap mark_of (sym c.in-Some.ensures.1)) _ _
    c.after-r.ensures c.start-at-in-loop-at.ensures

pub shape_of-marks : goal.shape_of-marks
shape_of-marks c =
    marking_long c.loop-at.invariant _ c.requires
    c.clear.ensures

pub returns : goal.returns
returns c =
    marking_whole c.loop-at.invariant _ c.requires
    c.clear.ensures (omega arith)

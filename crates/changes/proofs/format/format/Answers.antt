-- format: by its tests.
use Prim.Native.Nat.{◌+◌, ◌*◌}
use Rattle.alloc.specs.Block.{units_for}
use Rattle.changes.proofs.Formatting.{format-done, format-length, format-room, format-slots, inside, outside}
use borrow.Author.Tests.{leb-true, leb-false}
use lib.ListN.{length}
use mathlib.Core.Path.{◌∙◌, sym}
use native.Mathlib.Omega.{arith}
use Rattle.changes.proofs.format.format.Goals as goal

pub returns-then-not-length_allowed : goal.returns-then-not-length_allowed
returns-then-not-length_allowed c = format-length _ _ (sym c.length_allowed.ensures ∙ c.if-not-length_allowed.true)

pub returns-then-slots : goal.returns-then-slots
returns-then-slots c = format-slots _ _ (sym c.length_allowed.ensures ∙ c.if-not-length_allowed.false) (outside 1 1024 c.args.slots c.if-slots.true)

pub returns-then-not-has_room : goal.returns-then-not-has_room
returns-then-not-has_room c =
    format-room _ _ (sym c.length_allowed.ensures ∙ c.if-not-length_allowed.false)
    (inside 1 1024 c.args.slots c.if-slots.false)
    (omega (
      arith,
      c.directory_size.ensures,
      leb-false (32 + 16 * units_for c.directory_size.result)
          (length c.args.image.now) (sym c.has_room.ensures ∙ c.if-not-has_room.true),
    ))

pub returns : goal.returns
returns c =
    let h = leb-true (32 + 16 * units_for c.directory_size.result)
    (length c.args.image.now)
    (sym c.has_room.ensures ∙ c.if-not-has_room.false) in
    format-done _ _ (sym c.length_allowed.ensures ∙ c.if-not-length_allowed.false) (inside 1 1024
    c.args.slots c.if-slots.false)
    (omega (arith, c.directory_size.ensures, h)) c.fresh.ensures

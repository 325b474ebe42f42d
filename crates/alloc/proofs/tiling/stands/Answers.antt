-- stands: kind, end and padding, each test with its fact.
use Prim.Native.Nat.{ℕ}
use Rattle.alloc.proofs.Tiles.{judged_kind, judged_over, judged_short, judged_padding}
use Rattle.alloc.specs.Answers.{kind_magic}
use Rattle.alloc.specs.Tiling.{other_kind, kind_allowed}
use Rattle.alloc.specs.declared.block.Kind.{Kind}
use Rattle.alloc.specs.declared.block.Kind.TheVariants.{Superblock, Directory, Name, File, Free}
use borrow.Author.Tests.{ne_eqb}
use lib.Dec.{eqb}
use mathlib.Core.Bool.{Bool, true, false, cond}
use mathlib.Core.Path.{◌≡◌, refl, sym, ◌∙◌}
use native.Mathlib.Omega.{arith}
use Rattle.alloc.proofs.tiling.stands.Goals as goal

neither : (b : Bool) → cond b false false ≡ false
neither true = refl
neither false = refl

-- a magic of no kind is not allowed
unknown : (r m n : ℕ) → ((k : Kind) → m ≡ kind_magic k → ⊥) → false ≡ kind_allowed r m n
unfolding kind_allowed other_kind
unknown r m n h =
    sym (rw (ne_eqb m _ (h Directory), ne_eqb m _ (h Name), ne_eqb m _ (h File), ne_eqb m _ (h Free), ne_eqb m _ (h Superblock)) (neither (eqb r 0)))

pub returns-then-left-lt16 : goal.returns-then-left-lt16
returns-then-left-lt16 c = sym (judged_short _ _ c.requires (omega arith))

pub returns-in_err-kind : goal.returns-in_err-kind
returns-in_err-kind c =
    rw c.from_residual.ensures
    (sym (judged_kind _ _ _ _ c.requires refl refl _ (unknown _ _ _ c.in_err-kind.ensures) refl))

pub returns-then-not-kind_allowed : goal.returns-then-not-kind_allowed
returns-then-not-kind_allowed c =
    sym (judged_kind _ _ _ _ c.requires (sym c.in_ok-kind.ensures) c.size-size.ensures _ c.kind_allowed.ensures c.if-not-kind_allowed.true)

pub returns-then-left-long : goal.returns-then-left-long
returns-then-left-long c =
    sym (judged_over _ _ _ c.requires c.size-size.ensures (omega arith))

pub returns-then-not-all_zero : goal.returns-then-not-all_zero
returns-then-not-all_zero c =
    sym (judged_padding _ _ _ _ c.requires
    (sym c.in_ok-kind.ensures) c.size-size.ensures _ _
    c.plus.result.0 c.plus-2.result.0 c.kind_allowed.ensures
    c.if-not-kind_allowed.false (omega arith)
    (omega (arith, c.start-at.ensures, c.plus.ensures))
    (omega (arith, c.start-at.ensures, c.plus-2.ensures)) c.all_zero.ensures) ∙ c.if-not-all_zero.true

pub returns : goal.returns
returns c = (
  sym (judged_padding _ _ _ _ c.requires
      (sym c.in_ok-kind.ensures) c.size-size.ensures _ _
      c.plus.result.0 c.plus-2.result.0 c.kind_allowed.ensures
      c.if-not-kind_allowed.false (omega arith)
      (omega (arith, c.start-at.ensures, c.plus.ensures))
      (omega (arith, c.start-at.ensures, c.plus-2.ensures)) c.all_zero.ensures) ∙ c.if-not-all_zero.false,
  c.in_ok-kind.ensures,
)

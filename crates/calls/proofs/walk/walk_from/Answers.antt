-- walk_from: component after component.
use Rattle.calls.proofs.Steps.{walking_start, walking_on, walking_out, walking_end}
use Rattle.calls.proofs.Told.{err_is}
use Rattle.calls.specs.declared.refusal.Refusal.TheVariants as Refusal
use Prim.Native.Nat.{ℕ}
use mathlib.Core.List.{List}
use mathlib.Core.Path.{◌∙◌, ap}
use Rattle.alloc.specs.Volume.{volume_of}
use native.Mathlib.Omega.{arith}
use Rattle.calls.proofs.walk.walk_from.Goals as goal

pub loop-i-init : goal.loop-i-init
loop-i-init c = walking_start c.args.formed.bytes c.args.formed.formed _ _ (c.root-at.ensures ∙ ap (λ (s : List ℕ). (volume_of s).root) c.tiled.ensures)

pub loop-i-preserved : goal.loop-i-preserved
loop-i-preserved c =
    walking_on c.loop-i.invariant c.args.formed.bytes (omega (arith, c.count-i-end.ensures)) c.component.ensures _ c.in_ok-at.ensures

pub returns-in_err-at : goal.returns-in_err-at
returns-in_err-at c =
    rw (err_is _ (Refusal.For c.in_err-at.field-0.0) c.from_residual.ensures.1)
    (walking_out c.loop-i.invariant (omega (arith, c.count-i-end.ensures)) c.component.ensures _ c.in_err-at.ensures)

pub returns : goal.returns
returns c = walking_end c.loop-i.invariant (omega (arith, c.count-i-end.ensures))

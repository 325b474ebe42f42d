-- hook: by whether there is a free block before.
use Rattle.alloc.proofs.Plans.{hook_zero, hook_pos}
use mathlib.Core.Path.{refl, ◌∙◌}
use native.Mathlib.Nat.{add-zero}
use native.Mathlib.Omega.{arith}
use Rattle.alloc.proofs.release.hook.Goals as goal

pub returns-in-Some : goal.returns-in-Some
returns-in-Some c =
    let k = rw c.in-Some.is at c.requires in
    rw c.in-Some.is (c.data_start.ensures ∙ add-zero _ ∙ hook_pos _ (λ e. omega (arith, k.0)))

pub returns-in-None : goal.returns-in-None
returns-in-None c = rw c.in-None.is (c.data_start-in-None.ensures ∙ hook_zero 0 refl)

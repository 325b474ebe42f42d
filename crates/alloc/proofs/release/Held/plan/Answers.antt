-- plan: the free blocks on both sides, by the numbers read.
use Rattle.alloc.proofs.Plans.{inside, own_size, next-inside, taken_alone, taken_tail, plan_alone, plan_beside}
use mathlib.Core.Path.{◌∙◌, ap}
use native.Mathlib.Omega.{arith}
use Rattle.alloc.proofs.release.Held.plan.Goals.{in-Some, in_default}
use Rattle.storage.specs.declared.Ref.{Ref}
use Rattle.alloc.proofs.release.Held.plan.Goals as goal

pub invariant_of-header : goal.invariant_of-header
invariant_of-header c = record { inside = omega (arith, inside c.args.self.held) }

pub bytes_of-wipe-requires : goal.bytes_of-wipe-requires
bytes_of-wipe-requires c = omega (arith, inside c.args.self.held, own_size c.args.self.held, c.after-end.ensures, c.between-own.ensures)

pub behind-requires : goal.behind-requires
behind-requires c = λ e. next-inside c.args.self.held c.last_free-last.ensures.0 (e ∙ c.after-end.ensures)

pub overflow_add-wipe : goal.overflow_add-wipe
overflow_add-wipe c = record { fits = omega (arith, inside c.args.self.held, own_size c.args.self.held, c.after-end.ensures, c.between-own.ensures, c.bytes_of-wipe.ensures) }

pub returns-in-Some-adjoining : goal.returns-in-Some-adjoining
returns-in-Some-adjoining c =
    let k = c.in-Some-adjoining.ensures in
    rw k.1 (plan_beside c.args.self.held c.last_free-last.ensures.0 c.after-end.ensures
    (elim c.match-behind.branch [
      | in-Some w ↦ taken_tail c.between-own.ensures c.bytes_of-wipe.ensures w.in-Some.ensures.0 w.in-Some.ensures.1 (ap (λ (r : Ref). r.0) w.next-is ∙ w.in-Some.ensures.2) w.units-is w.wipe-is
      | in_default w ↦ taken_alone c.between-own.ensures c.bytes_of-wipe.ensures w.in_default.ensures w.units-is w.wipe-is (ap (λ (r : Ref). r.0) w.next-is)
    ])
    k.0 (rw k.1 at k.2.1))

pub returns-in-None : goal.returns-in-None
returns-in-None c =
    plan_alone c.args.self.held c.last_free-last.ensures.0 c.after-end.ensures
    (elim c.match-behind.branch [
      | in-Some w ↦ taken_tail c.between-own.ensures c.bytes_of-wipe.ensures w.in-Some.ensures.0 w.in-Some.ensures.1 (ap (λ (r : Ref). r.0) w.next-is ∙ w.in-Some.ensures.2) w.units-is w.wipe-is
      | in_default w ↦ taken_alone c.between-own.ensures c.bytes_of-wipe.ensures w.in_default.ensures w.units-is w.wipe-is (ap (λ (r : Ref). r.0) w.next-is)
    ])
    c.in-None.ensures c.hook.ensures

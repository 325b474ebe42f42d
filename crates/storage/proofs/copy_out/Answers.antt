-- copy_out: one byte more is stored; at the end they are all of the buffer.
use Rattle.std.proofs.Common.{◌≡◌, ◌∙◌, ap, sym, ◌+◌, ◌-◌, ℕ, arith, refl, length, take, drop, zero-add}
use Rattle.storage.proofs.Splice.{splice_whole}
use Rattle.storage.proofs.Runs.{stored-start, stored_on, stored-end, length_part}
use Rattle.storage.proofs.copy_out.Goals as goal

pub loop-i-init : goal.loop-i-init
loop-i-init c =
    let n = length c.args.buffer.now in
    stored-start _ _ _ (omega (arith, length_part c.args.s.now c.args.o.0 (c.args.o.0 + n - c.args.o.0) (omega arith)))

pub loop-i-preserved : goal.loop-i-preserved
loop-i-preserved c = stored_on c.loop-i.invariant _ _ (omega arith) (sym (zero-add _)) refl

pub returns : goal.returns
returns c =
    let b = c.args.buffer.now in
    let k : c.args.o.0 + length b - c.args.o.0 ≡ length b = omega arith in
    let part = take (c.args.o.0 + length b - c.args.o.0) (drop c.args.o.0 c.args.s.now) in
    stored-end c.loop-i.invariant (omega arith)
    ∙ splice_whole b part (length_part c.args.s.now c.args.o.0 (c.args.o.0 + length b - c.args.o.0) (omega arith) ∙ k)
    ∙ ap (λ (m : ℕ). take m (drop c.args.o.0 c.args.s.now)) k

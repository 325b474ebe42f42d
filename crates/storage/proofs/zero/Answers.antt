-- zero: the zeros stand in the place of the part.
use Rattle.std.proofs.Common.{◌≡◌, ◌∙◌, ap, ◌+◌, ◌-◌, ℕ, arith}
use lib.ListN.{length-replicate}
use Rattle.storage.specs.Bytes.{zeroed}
use Rattle.storage.proofs.Runs.{put_mid-splice, length_part}
use Rattle.storage.proofs.zero.Goals as goal

pub returns : goal.returns
returns c =
    let n = c.args.n in
    let k : c.args.o.0 + n - c.args.o.0 ≡ n = omega arith in
    let l = length_part c.args.s.now c.args.o.0 (c.args.o.0 + n - c.args.o.0) (omega arith) ∙ k in
    put_mid-splice _ (zeroed n) _ _ _ (c.fill.ensures.after (λ y e. e) ∙ ap zeroed l) (omega (arith, length-replicate {A = ℕ} n 0))

-- count: one, and one for each slash behind the first byte.
use Rattle.std.proofs.Common.{◌≡◌, ◌∙◌, ◌+◌, ◌-◌, List, ℕ, arith, sym, ap, length, take, drop}
use Rattle.std.proofs.lemmas.List.{take_rest}
use Rattle.path.specs.Path.{parts, components}
use Rattle.path.proofs.Parts.{components_none, components-parts, count-slash, count-other}
use Rattle.path.proofs.Walk.{walk_on, walk_end}
use Rattle.path.proofs.count.Goals as goal
use Rattle.path.proofs.count.Goals.{then-byte-eq47, else-byte-eq47}

pub returns-then-path-lt2 : goal.returns-then-path-lt2
returns-then-path-lt2 c = ap length (sym (components_none _ (omega arith)))

pub loop-byte-init : goal.loop-byte-init
loop-byte-init c =
    let p = c.args.path.now in
    let behind : components p ≡ parts (take (length p - 1) (drop 1 p)) = components-parts p (omega arith) ∙ ap parts (sym (take_rest p 1)) in
    record {
      few = omega arith;
      counted = record { inside = omega arith; same = ap (λ (ws : List (List ℕ)). 1 + length ws) behind };
    }

pub loop-byte-preserved : goal.loop-byte-preserved
loop-byte-preserved c =
    let w = c.loop-byte.invariant in
    elim c.if-byte-eq47.branch [
      | then-byte-eq47 v ↦ record { few = omega arith; counted = rw v.n-is (walk_on w.counted 0 _ (omega arith) (count-slash _ _ v.if-byte-eq47.true)) }
      | else-byte-eq47 v ↦ record { few = omega arith; counted = rw v.n-is (walk_on w.counted 0 _ (omega arith) (count-other _ _ v.if-byte-eq47.false)) }
    ]

pub returns : goal.returns
unfolding parts
returns c = omega (arith, walk_end c.loop-byte.invariant.counted 0 (omega arith))

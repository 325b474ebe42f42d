-- print_of: the bytes folded.
use Rattle.std.proofs.Common.{rules, ◌≡◌, ◌+◌, ◌*◌, ◌%◌, ◌∙◌}
use Rattle.std.specs.List.{fold}
use Rattle.tree.proofs.Printing.{print-folded}
use Rattle.tree.proofs.prints.print_of.Goals as goal

pub returns : goal.returns
returns c =
    let e : c.fold.result ≡ fold (λ h b. (h * 251 + b) % 65536) 0 c.args.name.now = search rules in
    e ∙ print-folded 0 c.args.name.now

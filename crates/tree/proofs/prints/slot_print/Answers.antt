-- slot_print: an empty slot, or its name.
use Rattle.tree.proofs.Printing.{print_free, print_named}
use Rattle.tree.proofs.prints.slot_print.Goals as goal

pub returns-in-None : goal.returns-in-None
returns-in-None c = print_free c.in-None.ensures

pub returns-in-Some : goal.returns-in-Some
returns-in-Some c = print_named c.in-Some.ensures c.body.ensures c.print_of.ensures

-- pass: an allocated block leaves the scan as it is; a free one must be due, and stand alone.
use Rattle.alloc.proofs.Links.{scans_other, scans_free}
use mathlib.Core.Path.{sym}
use Rattle.alloc.proofs.chain.Scan.pass.Goals as goal

pub returns-then-not-is : goal.returns-then-not-is
returns-then-not-is c = scans_other _ _ _ _ (sym c.if-not-is.ensures)

pub returns : goal.returns
returns c = scans_free _ _ _ _ (sym c.if-not-is.ensures) c.eq.ensures c.next_free-self.ensures

-- Demand 3: every history of calls, from any well-formed image and from an accepted format.
use Prim.Native.Nat.{ℕ}
use mathlib.Core.Bool.{true}
use mathlib.Core.List.{List}
use mathlib.Core.Option.{some}
use mathlib.Core.Path.{◌∙◌, ◌≡◌, ap, subst, sym}
use lib.ListN.{length}
use Rattle.tree.specs.Verdict.{well_formed}
use Rattle.changes.specs.Changing.{format}
use Rattle.history.specs.Book.{empty_slots}
use Rattle.history.specs.Claim.{Bytes, Claim, EveryHistory, Follows, FromFormat}
use Rattle.history.specs.History.{After, Call, history, step}
use Rattle.history.specs.TreeOf.{tree_of}
use Rattle.history.proofs.Calls.{kept, Left, kept_all}
use Rattle.history.proofs.Claims.{claim}
use Rattle.history.proofs.FormatStep.{formatted_good}
use Rattle.history.proofs.Holds.{good_formed}
use Rattle.history.proofs.Trees.{good, tree_is}

-- an image that holds the book: it is well formed and as long as s, the book is its tree, and the claim holds
follows : (s : List ℕ) (a : After) → Left (length s) a.image a.book → Follows s a
follows s a h =
    let g = h.2 in
    let e = tree_is (length s) a.image h.0 g in
    record {
      formed = good_formed (length s) a.image h.0 g;
      long = g.long;
      book = h.1 ∙ ap some (sym e);
      claim = subst (Claim a.image) (sym e) (claim (length s) a.image h.0 g);
    }

-- every history from any well-formed image, with its tree as the book
pub every_history : EveryHistory
unfolding EveryHistory
every_history s b e cs = follows s (history (record { image = s; book = some (tree_of s) }) cs) (kept_all (length s) s (tree_of s) cs (good s b e))

-- every history from an accepted format
pub from_format : FromFormat
unfolding FromFormat
from_format s k e cs =
    follows s (history (record { image = (format s k).image; book = some (empty_slots k) }) cs) (kept_all (length s) (format s k).image (empty_slots k) cs (formatted_good s k e))

-- every call, accepted or refused, leaves a well-formed image well formed, and as long as it was
pub call_formed : (s : List ℕ) → Bytes s → well_formed s ≡ true → (c : Call) → (well_formed (step s c).image ≡ true) × (length (step s c).image ≡ length s)
call_formed s b e c =
    let h = kept (length s) s (tree_of s) c (good s b e) in
    (good_formed (length s) (step s c).image h.0 h.2, h.2.long)

-- Every call keeps an image good, and so does every history.
use Rattle.changes.specs.Changing as changing
use Rattle.calls.specs.Refusal as refusal
use Rattle.calls.specs.Refusal.{accepted}
use Rattle.calls.specs.Reading as reading
use Prim.Native.Nat.{ℕ}
use mathlib.Core.Bool.{Bool, cond, false, true}
use mathlib.Core.List.{List, [], ◌∷◌}
use mathlib.Core.Option.{Option, some}
use mathlib.Core.Path.{◌≡◌, refl, subst, sym}
use Rattle.history.specs.Listing.{list}
use Rattle.history.specs.Book.{Tree, empty_slots}
use Rattle.history.specs.History.{Call, booked, check, check_marked, find, format, history, listing, make, read, read_point, remove, set_length, step, write}
use Rattle.history.proofs.BytesStep.{length-kept, write_kept, write_none}
use Rattle.history.proofs.FormatStep.{format-same, formatted_good}
use Rattle.history.proofs.Good.{Good}
use Rattle.history.proofs.MakeStep.{make-kept}
use Rattle.history.proofs.RemoveStep.{remove-kept}

-- what a call left, of the image and the book
abbrev pub Left : ℕ → List ℕ → Option Tree → Type 0
Left n s t = (u : Tree) × (t ≡ some u) × Good n s u

-- a call that changes nothing
unchanging : {n : ℕ} {s : List ℕ} {t : Tree} → Good n s t → (q : Bool) → Left n s (cond q (some t) (some t))
unchanging {n} {s} {t} g true = (t, refl, g)
unchanging {n} {s} {t} g false = (t, refl, g)

-- format, accepted or refused
format-kept : {n : ℕ} {s : List ℕ} {t : Tree} → Good n s t → (k : ℕ)
    → Left n (changing.format s k).image (cond (accepted (changing.format s k).refusal) (some (empty_slots k)) (some t))
format-kept {n} {s} {t} g k = go (accepted (changing.format s k).refusal) refl
  where
    go : (q : Bool) → accepted (changing.format s k).refusal ≡ q → Left n (changing.format s k).image (cond q (some (empty_slots k)) (some t))
    go true e =
        let f = formatted_good s k e in
        (empty_slots k, refl, subst (λ (m : ℕ). Good m (changing.format s k).image (empty_slots k)) g.long f)
    go false e = (t, refl, subst (λ (u : List ℕ). Good n u t) (sym (format-same s k e)) g)

-- one call
pub kept : (n : ℕ) (s : List ℕ) (t : Tree) (c : Call) → Good n s t → Left n (step s c).image (cond (accepted (step s c).refusal) (booked t c) (some t))
unfolding step booked
kept n s t (format k) g = format-kept g k
kept n s t check g = unchanging g (accepted (refusal.check s))
kept n s t (check_marked marks) g = unchanging g (accepted (refusal.check_marked s marks).refusal)
kept n s t (find p) g = unchanging g (accepted (reading.find s p).refusal)
kept n s t (make p new) g = make-kept g p new
kept n s t (read p position buffer) g = unchanging g (accepted (reading.read s p position buffer).refusal)
kept n s t (read_point p m) g = unchanging g (accepted (reading.read_point s p m).refusal)
kept n s t (write p position []) g = write_none g p position
kept n s t (write p position (y ∷ ys)) g = write_kept g p position y ys
kept n s t (set_length p m) g = length-kept g p m
kept n s t (remove p) g = remove-kept g p
kept n s t (listing lent) g = unchanging g (accepted (list s lent).refusal)

-- a list of calls
pub kept_all : (n : ℕ) (s : List ℕ) (t : Tree) (cs : List Call) → Good n s t
    → let a = history (record { image = s; book = some t }) cs in Left n a.image a.book
unfolding history
kept_all n s t [] g = (t, refl, g)
kept_all n s t (c ∷ cs) g =
    let k = kept n s t c g in
    subst (λ (b : Option Tree). let a = history (record { image = (step s c).image; book = b }) cs in Left n a.image a.book) (sym k.1)
    (kept_all n (step s c).image k.0 cs k.2)

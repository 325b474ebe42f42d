-- A history: a list of calls with any arguments, run on an image, and the book that is fed each call's arguments and whether it was accepted.
use Rattle.std.specs.Prelude.{ℕ, List, [], ◌∷◌, cond}
use Rattle.std.proofs.Math.Option.{Option, none, some}
use Rattle.path.specs.Path.{components, all_but_last}
use Rattle.calls.specs.Refusal.{Refusal, accepted}
use Rattle.calls.specs.Walk.{last_name}
use Rattle.calls.specs.Refusal as refusal
use Rattle.calls.specs.Reading as reading
use Rattle.changes.specs.Changing as changing
use Rattle.changes.specs.Changing.{Outcome, Made, New}
use Rattle.history.specs.Listing.{Line, list}
use Rattle.history.specs.Book.{Tree, empty_slots, in_directory, added, changed, emptied, written, resized}

-- every call, with its arguments as values: a check's marks, a read's buffer and a listing's lines as they are lent
pub data Call : Type 0 where
  format : ℕ → Call
  check : Call
  check_marked : List ℕ → Call
  find : List ℕ → Call
  make : List ℕ → New → Call
  read : List ℕ → ℕ → List ℕ → Call
  read_point : List ℕ → ℕ → Call
  write : List ℕ → ℕ → List ℕ → Call
  set_length : List ℕ → ℕ → Call
  remove : List ℕ → Call
  listing : List Line → Call

-- the call's refusal, and the image after it
pub record Step : Type 0 where
  pub refusal : Refusal
  pub image : List ℕ

abbrev pub answered : Refusal → List ℕ → Step
answered r s = record { refusal = r; image = s }

abbrev pub changed_by : Outcome → Step
changed_by o = answered o.refusal o.image

abbrev pub made_by : Made → Step
made_by m = answered m.refusal m.image

unfoldable pub step : List ℕ → Call → Step
step s (format k) = changed_by (changing.format s k)
step s check = answered (refusal.check s) s
step s (check_marked marks) = answered (refusal.check_marked s marks).refusal s
step s (find p) = answered (reading.find s p).refusal s
step s (make p new) = made_by (changing.make s p new)
step s (read p position buffer) = answered (reading.read s p position buffer).refusal s
step s (read_point p n) = answered (reading.read_point s p n).refusal s
step s (write p position bytes) = changed_by (changing.write s p position bytes)
step s (set_length p n) = changed_by (changing.set_length s p n)
step s (remove p) = changed_by (changing.remove s p)
step s (listing lent) = answered (list s lent).refusal s

-- a change of the directory that holds the path's last component, by that component; none for the root
abbrev pub at_last : (List ℕ → Tree → Option Tree) → List ℕ → Tree → Option Tree
at_last f p t = elim (components p) [ [] ↦ none | w ∷ ws ↦ in_directory (all_but_last (w ∷ ws)) (f (last_name p)) t ]

-- the book after an accepted call: none where what the call speaks of is not in the book
unfoldable pub booked : Tree → Call → Option Tree
booked t (format k) = some (empty_slots k)
booked t check = some t
booked t (check_marked marks) = some t
booked t (find p) = some t
booked t (make p new) = at_last (λ w. added w new) p t
booked t (read p position buffer) = some t
booked t (read_point p n) = some t
booked t (write p position []) = some t
booked t (write p position (y ∷ ys)) = at_last (λ w. changed w (written position (y ∷ ys))) p t
booked t (set_length p n) = at_last (λ w. changed w (resized n)) p t
booked t (remove p) = at_last (λ w. emptied w) p t
booked t (listing lent) = some t

-- an image, and the book
pub record After : Type 0 where
  pub image : List ℕ
  pub book : Option Tree

abbrev pub followed : Option Tree → Call → Option Tree
followed none c = none
followed (some t) c = booked t c

-- a refused call changes nothing in the book
abbrev pub after_call : After → Call → After
after_call a c =
    record { image = (step a.image c).image; book = cond (accepted (step a.image c).refusal) (followed a.book c) a.book }

unfoldable pub history : After → List Call → After
history a [] = a
history a (c ∷ cs) = history (after_call a c) cs

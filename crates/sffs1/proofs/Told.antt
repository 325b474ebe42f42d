-- What the calls answer is what C is told, once their refusal is told.
use Prim.Native.Nat.{ℕ}
use mathlib.Core.List.{List}
use mathlib.Core.Path.{◌∙◌, ◌≡◌, ap}
use Rattle.calls.specs.Answers.{Checks, Points, Reads}
use Rattle.calls.specs.Reading.{Point, Read}
use Rattle.calls.specs.Refusal.{Checked, Refusal, number_of, place_of}
use Rattle.changes.specs.Answers.{Changes, Makes}
use Rattle.changes.specs.Changing.{Made, Outcome}
use Rattle.sffs1.specs.Numbers.{Tells, TellsChecked, TellsMade, TellsOutcome, TellsPoint, TellsRead}

module _ {r : Refusal} {n p : ℕ} (t : Tells r n p) where
  pub told_as : {u : Refusal} → r ≡ u → Tells u n p
  told_as e = record { number_is = t.number_is ∙ ap number_of e; place_is = t.place_is ∙ ap place_of e }

  pub check-told : {c : Checked} {m : List ℕ} → Checks c r m → TellsChecked c n p m
  check-told w = record { told = told_as w.refusal_is; marks_are = w.marks_are }

  pub read_told : {a : Read} {c : ℕ} {b : List ℕ} → Reads a r c b → TellsRead a n c p b
  read_told w = record { told = told_as w.refusal_is; count-is = w.count-is; buffer-is = w.buffer-is }

  pub point-told : {a : Point} {b : List ℕ} → Points a r b → TellsPoint a n p b
  point-told w = record { told = told_as w.refusal_is; bytes-is = w.bytes-is }

  pub outcome_told : {o : Outcome} {s : List ℕ} → Changes o r s → TellsOutcome o n p s
  outcome_told w = record { told = told_as w.refusal_is; image-is = w.image-is }

  pub made_told : {m : Made} {a : ℕ} {s : List ℕ} → Makes m r a s → TellsMade m n a p s
  made_told w = record { told = told_as w.refusal_is; at-is = w.at-is; image-is = w.image-is }

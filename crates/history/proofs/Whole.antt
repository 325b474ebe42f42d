-- A history runs every call of its list, refused ones too: the last call is made on what the calls before it left.
use mathlib.Core.List.{List, [], ◌∷◌, ◌++◌}
use mathlib.Core.Path.{◌≡◌, refl}
use Rattle.history.specs.History.{Call, After, after_call, history}

pub history-append : (a : After) (cs ds : List Call) → history a (cs ++ ds) ≡ history (history a cs) ds
unfolding history
history-append a [] ds = refl
history-append a (c ∷ cs) ds = history-append (after_call a c) cs ds

pub history_last : (a : After) (cs : List Call) (c : Call) → history a (cs ++ (c ∷ [])) ≡ after_call (history a cs) c
unfolding history
history_last a [] c = refl
history_last a (d ∷ cs) c = history_last (after_call a d) cs c

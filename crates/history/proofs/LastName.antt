-- The last component of a path, and the book's change by it.
use Prim.Native.Nat.{◌-◌, ◌<◌, suc, ℕ}
use mathlib.Core.Bool.{true}
use mathlib.Core.List.{List, [], ◌++◌, ◌∷◌}
use mathlib.Core.Option.{Option, none}
use mathlib.Core.Path.{◌∙◌, ◌≡◌, ap, refl, sym}
use native.Mathlib.Omega.{arith}
use lib.ListN.{get_or, length, length-append}
use Rattle.storage.proofs.Booleans.{and_true}
use Rattle.path.specs.Name.{valid_name}
use Rattle.path.specs.Path.{all_but_last, all_valid, components, valid_path}
use Rattle.path.proofs.Paths.{valid-components}
use Rattle.calls.specs.Walk.{last_name}
use Rattle.history.specs.Book.{Tree, in_directory}
use Rattle.history.specs.History.{at_last}

-- the components before it, and it
pub split_last : (w : List ℕ) (ws : List (List ℕ)) → all_but_last (w ∷ ws) ++ (get_or (w ∷ ws) (length (w ∷ ws) - 1) [] ∷ []) ≡ w ∷ ws
unfolding all_but_last
split_last w [] = refl
split_last w (v ∷ ws) =
    let e : length (w ∷ v ∷ ws) - 1 ≡ suc (length (v ∷ ws) - 1) = omega arith in
    ap (λ (i : ℕ). w ∷ (all_but_last (v ∷ ws) ++ (get_or (w ∷ v ∷ ws) i [] ∷ []))) e ∙ ap (λ (vs : List (List ℕ)). w ∷ vs) (split_last v ws)

last_valid : (ds : List (List ℕ)) (v : List ℕ) → all_valid (ds ++ (v ∷ [])) ≡ true → valid_name v ≡ true
unfolding all_valid
last_valid [] v h = (and_true (valid_name v) true h).0
last_valid (d ∷ ds) v h = last_valid ds v (and_true (valid_name d) _ h).1

module _ (path w : List ℕ) (ws : List (List ℕ)) (c : components path ≡ w ∷ ws) where
  -- of a path
  pub last_split : all_but_last (w ∷ ws) ++ (last_name path ∷ []) ≡ w ∷ ws
  unfolding last_name
  last_split =
      ap (λ (vs : List (List ℕ)). all_but_last (w ∷ ws) ++ (get_or vs (length vs - 1) [] ∷ [])) c ∙ split_last w ws

  module _ (v : valid_path path ≡ true) where
    -- it is a valid name
    whole : all_valid (all_but_last (w ∷ ws) ++ (last_name path ∷ [])) ≡ true
    whole = ap all_valid (last_split ∙ sym c) ∙ (valid-components path v).0

    pub last_name_lem : valid_name (last_name path) ≡ true
    last_name_lem = last_valid (all_but_last (w ∷ ws)) (last_name path) whole

    -- fewer than 16 stand before it
    pub before-few : length (all_but_last (w ∷ ws)) < 16
    before-few =
        omega (arith, length-append (all_but_last (w ∷ ws)) (last_name path ∷ []), ap length last_split, ap length c, (valid-components path v).1)

  -- the book's change
  pub at_last_lem : (f : List ℕ → Tree → Option Tree) (t : Tree) → at_last f path t ≡ in_directory (all_but_last (w ∷ ws)) (f (last_name path)) t
  at_last_lem f t =
      ap (λ (vs : List (List ℕ)). elim vs as (λ _. Option Tree) [ [] ↦ none | u ∷ us ↦ in_directory (all_but_last (u ∷ us)) (f (last_name path)) t ]) c

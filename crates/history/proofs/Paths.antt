-- The paths of a tree's objects: each is spelled from the names on the way to it.
use Prim.Native.Nat.{◌<◌, ◌≤◌, ℕ}
use mathlib.Core.Bool.{true}
use mathlib.Core.List.{List, [], ◌++◌, ◌∷◌, append_assoc, append-nil}
use mathlib.Core.Path.{◌∙◌, ◌≡◌, ap, refl, sym}
use native.Mathlib.Omega.{arith}
use lib.ListN.{length, length-append}
use Rattle.storage.proofs.Booleans.{and_true}
use Rattle.path.specs.Name.{valid_name}
use Rattle.path.specs.Path.{all_valid, components, joined, path_for, valid_path}
use Rattle.path.proofs.Paths.{components-joined, valid-joined}
use Rattle.history.specs.Claim.{slash}

-- names joined behind others
joined-append : (ws vs : List (List ℕ)) → joined (ws ++ vs) ≡ joined ws ++ joined vs
unfolding joined
joined-append [] vs = refl
joined-append (w ∷ ws) vs = rw (joined-append ws vs) (simp append_assoc)

-- one name more, behind a slash
joined_last : (ws : List (List ℕ)) (v : List ℕ) → joined (ws ++ (v ∷ [])) ≡ (joined ws ++ slash) ++ v
unfolding joined
joined_last ws v = rw (joined-append ws (v ∷ []), append-nil v) (sym (append_assoc (joined ws) slash v))

-- a path with a name is its names joined
path-joined : (ws : List (List ℕ)) (v : List ℕ) → path_for (ws ++ (v ∷ [])) ≡ joined (ws ++ (v ∷ []))
unfolding path_for
path-joined [] v = refl
path-joined (w ∷ ws) v = refl

-- one valid name more
all_valid_last : (ws : List (List ℕ)) (v : List ℕ) → all_valid ws ≡ true → valid_name v ≡ true → all_valid (ws ++ (v ∷ [])) ≡ true
unfolding all_valid
all_valid_last [] v h g = rw g
all_valid_last (w ∷ ws) v h g = let k = and_true (valid_name w) (all_valid ws) h in rw k.0 (all_valid_last ws v k.1 g)

-- a path that these names spell
pub record Way (p : List ℕ) (ws : List (List ℕ)) : Type 0 where
  pub spelled : p ≡ path_for ws
  pub valid : all_valid ws ≡ true
  pub short : length ws ≤ 16

-- it is valid
pub way_valid : {p : List ℕ} {ws : List (List ℕ)} → Way p ws → valid_path p ≡ true
way_valid {p} {ws} w = rw w.spelled (valid-joined ws w.valid w.short)

-- and these are its components
pub way_components : {p : List ℕ} {ws : List (List ℕ)} → Way p ws → components p ≡ ws
way_components {p} {ws} w = rw w.spelled (components-joined ws w.valid)

-- the root's path has none
pub way_root : Way slash []
unfolding path_for all_valid
way_root = record { spelled = refl; valid = refl; short = omega arith }

-- the path of a directory's object: here is the directory's with a slash behind it
pub way_last : {here : List ℕ} (ws : List (List ℕ)) (v : List ℕ) → here ≡ joined ws ++ slash → all_valid ws ≡ true → valid_name v ≡ true
    → length ws < 16 → Way (here ++ v) (ws ++ (v ∷ []))
way_last ws v e h g l = record {
  spelled = ap (λ (x : List ℕ). x ++ v) e ∙ sym (joined_last ws v) ∙ sym (path-joined ws v);
  valid = all_valid_last ws v h g;
  short = omega (arith, length-append ws (v ∷ []));
}

-- and with a slash behind that, for what is in it
pub here_last : {here : List ℕ} (ws : List (List ℕ)) (v : List ℕ) → here ≡ joined ws ++ slash
    → here ++ (v ++ slash) ≡ joined (ws ++ (v ∷ [])) ++ slash
here_last {here} ws v e =
    sym (append_assoc here v slash) ∙ ap (λ (x : List ℕ). (x ++ v) ++ slash) e ∙ ap (λ (x : List ℕ). x ++ slash) (sym (joined_last ws v))

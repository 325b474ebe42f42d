-- The tests of a name and of a path say exactly what a reader asks of them.
use Prim.Native.Nat.{ℕ, zero, suc, ◌≤◌, ◌<◌}
use mathlib.Core.List.{List, [], ◌∷◌}
use mathlib.Core.Path.{◌≡◌, refl, ap, sym, ◌∙◌}
use mathlib.Core.Bool.{Bool, true, false, ◌&&◌, not, false≢true}
use mathlib.Core.Logic.{◌↔◌}
use native.Mathlib.Omega.{arith}
use borrow.Author.Tests.{eqb-true, ne_eqb, eq-eqb, leb-true, le-leb}
use lib.Dec.{eqb, leb}
use lib.ListN.{length, get_or}
use Rattle.path.specs.Name.{within, forbidden, allowed, encoded, dots, valid_name}
use Rattle.path.specs.Path.{components, all_valid, valid_path}
use Rattle.path.specs.Valid.{ValidName, ValidPath}
use Rattle.path.proofs.Booleans.{and_left, and_right}
use Rattle.path.proofs.Utf8.{encoded-utf8}
use Rattle.path.proofs.Valid.{path_names}
use Rattle.path.proofs.Paths.{valid-components, valid-front}

-- none of the forbidden bytes, each by itself
abbrev Free : ℕ → Type 0
Free b = (b ≡ 0x00 → ⊥) × (b ≡ 0x2f → ⊥) × (b ≡ 0x5c → ⊥)

free : (b : ℕ) → not (forbidden b) ≡ true → Free b
free b e = (λ z. never (rw (eq-eqb b 0x00 z) at e), λ z. never (rw z at e), λ z. never (rw z at e))
  where
    never : false ≡ true → ⊥
    never = false≢true

free_so : (b : ℕ) → Free b → not (forbidden b) ≡ true
free_so b f = rw (ne_eqb b 0x00 f.0, ne_eqb b 0x2f f.1, ne_eqb b 0x5c f.2)

allowed-free : (s : List ℕ) → allowed s ≡ true → (i : ℕ) → i < length s → Free (get_or s i 0)
unfolding allowed
allowed-free [] e i l = absurd (omega arith)
allowed-free (b ∷ s) e zero l = free b (and_left _ _ e)
allowed-free (b ∷ s) e (suc i) l = allowed-free s (and_right (not (forbidden b)) _ e) i (omega arith)

free-allowed : (s : List ℕ) → ((i : ℕ) → i < length s → Free (get_or s i 0)) → allowed s ≡ true
unfolding allowed
free-allowed [] f = refl
free-allowed (b ∷ s) f = rw (free_so b (f 0 (omega arith))) (free-allowed s (λ i l. f (suc i) (omega arith)))

-- neither "." nor ".."
no_dots : (s : List ℕ) → (s ≡ 0x2e ∷ [] → ⊥) → (s ≡ 0x2e ∷ 0x2e ∷ [] → ⊥) → not (dots s) ≡ true
no_dots [] h g = refl
no_dots (a ∷ []) h g = rw (ne_eqb a 0x2e (λ z. h (ap (λ (x : ℕ). x ∷ []) z)))
no_dots (a ∷ b ∷ []) h g = go (eqb a 0x2e) refl
  where
    go : (q : Bool) → eqb a 0x2e ≡ q → not (q && eqb b 0x2e) ≡ true
    go true e = rw (ne_eqb b 0x2e (λ z. g (λ i. eqb-true a 0x2e e i ∷ z i ∷ [])))
    go false e = refl
no_dots (a ∷ b ∷ c ∷ s) h g = refl

-- THE TEST IS THE DEFINITION
pub valid-name : (s : List ℕ) → valid_name s ≡ true ↔ ValidName s
unfolding valid_name
valid-name s = (said, tested)
  where
    said : valid_name s ≡ true → ValidName s
    said e =
        let l : within 1 64 (length s) ≡ true = and_left _ _ e in
        let f : (allowed s && (encoded s && not (dots s))) ≡ true = and_right (within 1 64 (length s)) _ e in
        let g : (encoded s && not (dots s)) ≡ true = and_right (allowed s) _ f in
        let d : not (dots s) ≡ true = and_right (encoded s) _ g in
        let a : (i : ℕ) → i < length s → Free (get_or s i 0) = allowed-free s (and_left _ _ f) in
        record {
          size = (leb-true 1 (length s) (and_left _ _ l), leb-true (length s) 64 (and_right (leb 1 (length s)) _ l));
          no_zero = λ i h. (a i h).0;
          no_slash = λ i h. (a i h).1;
          no_backslash = λ i h. (a i h).2;
          encoded = (encoded-utf8 s).0 (and_left _ _ g);
          not_dot = λ z. false≢true (sym (ap (λ (t : List ℕ). not (dots t)) z) ∙ d);
          not_dots = λ z. false≢true (sym (ap (λ (t : List ℕ). not (dots t)) z) ∙ d);
        }

    tested : ValidName s → valid_name s ≡ true
    tested v =
        rw (le-leb 1 (length s) v.size.0, le-leb (length s) 64 v.size.1)
        (rw (free-allowed s (λ i h. (v.no_zero i h, v.no_slash i h, v.no_backslash i h)))
        (rw ((encoded-utf8 s).1 v.encoded) (no_dots s v.not_dot v.not_dots)))

-- each of some names
all_valid_lem : (ws : List (List ℕ)) → all_valid ws ≡ true → (i : ℕ) → i < length ws → valid_name (get_or ws i []) ≡ true
unfolding all_valid
all_valid_lem [] e i l = absurd (omega arith)
all_valid_lem (w ∷ ws) e zero l = and_left _ _ e
all_valid_lem (w ∷ ws) e (suc i) l = all_valid_lem ws (and_right (valid_name w) _ e) i (omega arith)

valid_all : (ws : List (List ℕ)) → ((i : ℕ) → i < length ws → ValidName (get_or ws i [])) → all_valid ws ≡ true
unfolding all_valid
valid_all [] v = refl
valid_all (w ∷ ws) v = rw ((valid-name w).1 (v 0 (omega arith))) (valid_all ws (λ i l. v (suc i) (omega arith)))

pub valid-path : (p : List ℕ) → valid_path p ≡ true ↔ ValidPath p
valid-path p = (said, λ v. path_names p (some_byte p v.begins) v.begins v.few ∙ valid_all (components p) v.names)
  where
    said : valid_path p ≡ true → ValidPath p
    said e =
        let c : (all_valid (components p) ≡ true) × (length (components p) ≤ 16) = valid-components p e in
        record { begins = valid-front p e; few = c.1; names = λ i l. (valid-name _).0 (all_valid_lem (components p) c.0 i l) }

    some_byte : (s : List ℕ) → get_or s 0 0 ≡ 0x2f → 0 < length s
    some_byte [] e = absurd (omega arith)
    some_byte (b ∷ s) e = omega arith

-- The laws of names and paths: from a path to its components and back, and its directory.
use Prim.Native.Nat.{ℕ, suc, ◌+◌, ◌≤◌, ◌<◌, max}
use mathlib.Core.List.{List, [], ◌∷◌, ◌++◌, append-nil, append_assoc}
use mathlib.Core.Path.{◌≡◌, refl, ap, sym, ◌∙◌}
use mathlib.Core.Bool.{Bool, true, false, ◌&&◌, cond, not, false≢true}
use native.Mathlib.Omega.{arith}
use native.Mathlib.Nat.{add-zero}
use borrow.Author.Tests.{eqb-true, eqb-false, leb-true}
use lib.Dec.{eqb, leb}
use lib.ListN.{length, get_or, take, drop, length-append}
use lib.Seq.{take_at}
use Rattle.path.specs.Name.{within, forbidden, allowed, valid_name}
use Rattle.path.specs.Path.{parts, components, all_valid, valid_path, joined, path_for, all_but_last, last_slash, directory_of}
use Rattle.path.proofs.Booleans.{and_left, and_right}
use Rattle.path.proofs.Parts.{first, parts-slash, parts-other, parts_cons, components-parts, last_other}
use Rattle.path.proofs.Valid.{path_names, all_cons}

-- the length of a valid name
pub name-length : (w : List ℕ) → valid_name w ≡ true → (1 ≤ length w) × (length w ≤ 64)
unfolding valid_name
name-length w e =
    let l : within 1 64 (length w) ≡ true = and_left _ _ e in
    (leb-true _ _ (and_left _ _ l), leb-true _ _ (and_right (leb 1 (length w)) _ l))

-- no byte is a slash
abbrev pub NoSlash : List ℕ → Type 0
NoSlash [] = Unit {0}
NoSlash (b ∷ s) = (b ≡ 0x2f → ⊥) × NoSlash s

allowed_no_slash : (s : List ℕ) → allowed s ≡ true → NoSlash s
unfolding allowed
allowed_no_slash [] e = tt
allowed_no_slash (b ∷ s) e = (λ z. slash z e, allowed_no_slash s (and_right (not (forbidden b)) _ e))
  where
    slash : b ≡ 0x2f → (not (forbidden b) && allowed s) ≡ true → ⊥
    slash z h = false≢true (rw z at h)

-- nor is one of a valid name
pub name_no_slash : (w : List ℕ) → valid_name w ≡ true → NoSlash w
unfolding valid_name
name_no_slash w e = allowed_no_slash w (and_left _ _ (and_right (within 1 64 (length w)) _ e))

-- the parts, each behind a slash, are the bytes behind a slash
joined-parts : (s : List ℕ) → joined (parts s) ≡ 0x2f ∷ s
unfolding joined parts
joined-parts [] = refl
joined-parts (b ∷ s) = go (eqb b 0x2f) refl (joined-parts s)
  where
    go : (q : Bool) → eqb b 0x2f ≡ q → joined (parts s) ≡ 0x2f ∷ s → joined (parts (b ∷ s)) ≡ 0x2f ∷ b ∷ s
    go true e h =
        let z : b ≡ 0x2f = eqb-true b 0x2f e in
        ap joined (parts-slash b z s) ∙ ap (λ (t : List ℕ). 0x2f ∷ t) h ∙ ap (λ (c : ℕ). 0x2f ∷ c ∷ s) (sym z)
    go false e h =
        let f : 0x2f ∷ (first s ++ joined (drop 1 (parts s))) ≡ 0x2f ∷ s = sym (ap joined (parts_cons s)) ∙ h in
        let g : first s ++ joined (drop 1 (parts s)) ≡ s = cc in
        ap joined (parts-other b (eqb-false b 0x2f e) s) ∙ ap (λ (t : List ℕ). 0x2f ∷ b ∷ t) g

-- the components, joined by slashes, are the path
pub joined-components : (p : List ℕ) → valid_path p ≡ true → path_for (components p) ≡ p
unfolding valid_path components path_for
joined-components [] e = absurd (false≢true e)
joined-components (b ∷ []) e = ap (λ (c : ℕ). c ∷ []) (sym (eqb-true b 0x2f (and_left _ _ e)))
joined-components (b ∷ c ∷ s) e =
    ap path_for (parts_cons (c ∷ s))
    ∙ sym (ap joined (parts_cons (c ∷ s)))
    ∙ joined-parts (c ∷ s)
    ∙ ap (λ (a : ℕ). a ∷ c ∷ s) (sym (eqb-true b 0x2f (and_left _ _ e)))

-- bytes that are no slash belong to the first part
parts-append : (w t : List ℕ) → NoSlash w → parts (w ++ t) ≡ (w ++ first t) ∷ drop 1 (parts t)
parts-append [] t n = parts_cons t
parts-append (b ∷ w) t n =
    parts-other b n.0 (w ++ t)
    ∙ ap (λ (ws : List (List ℕ)). (b ∷ get_or ws 0 []) ∷ drop 1 ws) (parts-append w t n.1)

parts-joined : (ws : List (List ℕ)) (w : List ℕ) → NoSlash w → all_valid ws ≡ true → parts (w ++ joined ws) ≡ w ∷ ws
unfolding parts joined all_valid
parts-joined [] w n e = parts-append w [] n ∙ ap (λ (v : List ℕ). v ∷ []) (append-nil w)
parts-joined (v ∷ vs) w n e =
    parts-append w (0x2f ∷ (v ++ joined vs)) n
    ∙ ap (λ (us : List (List ℕ)). (w ++ []) ∷ us)
    (parts-joined vs v (name_no_slash v (and_left _ _ e)) (and_right (valid_name v) _ e))
    ∙ ap (λ (u : List ℕ). u ∷ v ∷ vs) (append-nil w)

-- the path for these names has them as its components
pub components-joined : (ws : List (List ℕ)) → all_valid ws ≡ true → components (path_for ws) ≡ ws
unfolding components path_for joined all_valid
components-joined [] e = refl
components-joined (w ∷ ws) e =
    let v : valid_name w ≡ true = and_left _ _ e in
    components-parts (joined (w ∷ ws)) (omega (arith, (name-length w v).0, length-append w (joined ws)))
    ∙ parts-joined ws w (name_no_slash w v) (and_right (valid_name w) _ e)

-- a path begins with a slash
path-front : (ws : List (List ℕ)) → (0 < length (path_for ws)) × (get_or (path_for ws) 0 0 ≡ 0x2f)
unfolding path_for joined
path-front [] = (omega arith, refl)
path-front (w ∷ ws) = (omega arith, refl)

-- at most 16 valid names make a valid path
pub valid-joined : (ws : List (List ℕ)) → all_valid ws ≡ true → length ws ≤ 16 → valid_path (path_for ws) ≡ true
valid-joined ws e l =
    let is : components (path_for ws) ≡ ws = components-joined ws e in
    path_names (path_for ws) (path-front ws).0 (path-front ws).1 (omega (arith, ap length is)) ∙ ap all_valid is ∙ e

-- a valid path has at most 16 components, which are valid names
pub valid-components : (p : List ℕ) → valid_path p ≡ true → (all_valid (components p) ≡ true) × (length (components p) ≤ 16)
unfolding valid_path
valid-components [] e = absurd (false≢true e)
valid-components (b ∷ s) e =
    let h : (leb (length (components (b ∷ s))) 16 && all_valid (components (b ∷ s))) ≡ true = and_right (eqb b 0x2f) _ e in
    (and_right (leb (length (components (b ∷ s))) 16) _ h, leb-true _ _ (and_left _ _ h))

-- and begins with a slash
pub valid-front : (p : List ℕ) → valid_path p ≡ true → get_or p 0 0 ≡ 0x2f
unfolding valid_path
valid-front [] e = absurd (false≢true e)
valid-front (b ∷ s) e = eqb-true b 0x2f (and_left _ _ e)

-- the names before the last
but_last_valid : (ws : List (List ℕ)) → all_valid ws ≡ true → all_valid (all_but_last ws) ≡ true
unfolding all_valid all_but_last
but_last_valid [] e = refl
but_last_valid (w ∷ []) e = refl
but_last_valid (w ∷ v ∷ ws) e =
    all_cons true w (sym (and_left _ _ e)) (all_but_last (v ∷ ws)) ∙ but_last_valid (v ∷ ws) (and_right (valid_name w) _ e)

-- the bytes behind the last slash
record Last (ws : List (List ℕ)) : Type 0 where
  name : List ℕ
  plain : NoSlash name
  is : joined ws ≡ joined (all_but_last ws) ++ (0x2f ∷ name)

last_of : (w : List ℕ) (ws : List (List ℕ)) → all_valid (w ∷ ws) ≡ true → Last (w ∷ ws)
unfolding all_valid all_but_last joined
last_of w [] e = record {
  name = w;
  plain = name_no_slash w (and_left _ _ e);
  is = ap (λ (t : List ℕ). 0x2f ∷ t) (append-nil w);
}
last_of w (v ∷ ws) e =
    let l : Last (v ∷ ws) = last_of v ws (and_right (valid_name w) _ e) in
    record {
      name = l.name;
      plain = l.plain;
      is = ap (λ (t : List ℕ). 0x2f ∷ (w ++ t)) l.is
          ∙ ap (λ (t : List ℕ). 0x2f ∷ t) (sym (append_assoc w (joined (all_but_last (v ∷ ws))) (0x2f ∷ l.name)));
    }

-- where the last slash stands
no_slash : (s : List ℕ) (n i : ℕ) → NoSlash s → last_slash n i s ≡ n
unfolding last_slash
no_slash [] n i h = refl
no_slash (b ∷ s) n i h = last_other n i b h.0 s ∙ no_slash s n (i + 1) h.1

last_found : (u v : List ℕ) (n i : ℕ) → NoSlash v → last_slash n i (u ++ (0x2f ∷ v)) ≡ i + length u
unfolding last_slash
last_found [] v n i h = no_slash v i (suc i) h ∙ sym (add-zero i)
last_found (b ∷ u) v n i h = last_found u v (cond (eqb b 0x2f) i n) (suc i) h ∙ omega arith

-- the bytes before it, and the first byte at least
before_last : (ws : List (List ℕ)) (v : List ℕ) → take (max 1 (length (joined ws))) (joined ws ++ (0x2f ∷ v)) ≡ path_for ws
unfolding joined path_for
before_last [] v = refl
before_last (w ∷ ws) v = take_at (joined (w ∷ ws)) (0x2f ∷ v) (max 1 (length (joined (w ∷ ws)))) (omega arith)

-- the directory of the path with these components
directory-joined : (ws : List (List ℕ)) → all_valid ws ≡ true → directory_of (path_for ws) ≡ path_for (all_but_last ws)
unfolding directory_of path_for all_but_last last_slash
directory-joined [] e = refl
directory-joined (w ∷ ws) e =
    let l : Last (w ∷ ws) = last_of w ws e in
    let u : List ℕ = joined (all_but_last (w ∷ ws)) in
    let n : last_slash 0 0 (u ++ (0x2f ∷ l.name)) ≡ length u = last_found u l.name 0 0 l.plain ∙ omega arith in
    ap (λ (t : List ℕ). take (max 1 (last_slash 0 0 t)) t) l.is
    ∙ ap (λ (k : ℕ). take (max 1 k) (u ++ (0x2f ∷ l.name))) n
    ∙ before_last (all_but_last (w ∷ ws)) l.name

pub directory-path : (p : List ℕ) → valid_path p ≡ true → directory_of p ≡ path_for (all_but_last (components p))
directory-path p e =
    ap directory_of (sym (joined-components p e)) ∙ directory-joined (components p) (valid-components p e).0

-- a directory has all components but the last, and is a valid path
pub directory-components : (p : List ℕ) → valid_path p ≡ true → components (directory_of p) ≡ all_but_last (components p)
directory-components p e =
    ap components (directory-path p e)
    ∙ components-joined (all_but_last (components p)) (but_last_valid (components p) (valid-components p e).0)

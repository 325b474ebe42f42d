-- The walk: one slot, one step, and the loop along the components.
use Prim.Native.Nat.{◌+◌, ◌-◌, ◌<◌, ◌≤◌, suc, ℕ}
use mathlib.Core.Bool.{Bool, ◌&&◌, cond, false, true}
use mathlib.Core.List.{List, [], ◌∷◌}
use mathlib.Core.Option.{Option, none, some}
use mathlib.Core.Path.{◌∙◌, ◌≡◌, ap, refl, subst, sym}
use native.Mathlib.Numerals.{add-one}
use native.Mathlib.Omega.{arith}
use lib.ListN.{drop, drop_of_length-le, get_or, length}
use lib.Seq.{drop-cons}
use borrow.Author.Tests.{eq-eqb, eqb-true, ne_eqb}
use Rattle.storage.specs.Bytes.{same}
use Rattle.storage.proofs.Booleans.{and_true}
use Rattle.storage.proofs.Numbers.{AllBytes}
use Rattle.path.specs.Path.{all_but_last, components, directory_of, valid_path}
use Rattle.path.proofs.Paths.{directory-components}
use Rattle.alloc.specs.Block.{Block, block_of}
use Rattle.alloc.specs.Sound.{Standing}
use Rattle.alloc.proofs.Held.{StandsAt}
use Rattle.alloc.specs.Volume.{Objects, block_at, objects, volume_of}
use Rattle.tree.specs.Fields.{Slot, is_dir, is_file, slot_at, taken, total}
use Rattle.tree.specs.Verdict.{verdict, well_formed}
use Rattle.calls.specs.declared.refusal.Reason.{Reason}
use Rattle.calls.specs.declared.refusal.Reason.TheVariants.{BadPath, IsDirectory, NotDirectory, OutOfBounds}
use Rattle.calls.specs.declared.refusal.Refusal as declared-refusal
use Rattle.calls.specs.Answers.{DirectoryIn, FileIn, ObjectAt, named, refused_as}
use Rattle.calls.specs.Reading.{block_in}
use Rattle.calls.specs.Refusal.{Accepted, For, Refusal, accepted, broken, check, number_of}
use Rattle.calls.specs.Walk.{Start, Walk, above_last, as_directory, as_file, at, blocked, child, last_name, missing, opening}
use Rattle.calls.specs.Walk.{or_refused, reached, refused, slot_named, start, start_above, step, walk, walk_from, walked}
use Rattle.calls.proofs.Checking.{check-refused, checked_formed, never_accepted}
use Rattle.calls.proofs.Lowest.{found-slot}
use Rattle.calls.proofs.Stands.{root-object, slot-name-stands, slot-object}

-- ---- one slot

module _ {s : List ℕ} (h : AllBytes s) {r : ℕ} (d : DirectoryIn s r) {i : ℕ} (l : i < total (block_in s r)) {x : Slot} (e : x ≡ slot_at (block_in s r) i) where
  pub named-empty : (w : List ℕ) → taken x ≡ false → false ≡ named s r i w
  named-empty w n = sym (ap (λ (y : Bool). y && same (block_in s (slot_at (block_in s r) i).0).body w) (ap taken (sym e) ∙ n))

  module _ (n : taken x ≡ true) where
    taken_there : taken (slot_at (block_in s r) i) ≡ true
    taken_there = ap taken (sym e) ∙ n

    name-stands : StandsAt s x.0 (block_in s x.0)
    name-stands = subst (λ (y : Slot). StandsAt s y.0 (block_in s y.0)) (sym e) (slot-name-stands h d i l taken_there)

    pub name-standing : Standing s x.0
    name-standing = name-stands.standing

    pub named-taken : (w : List ℕ) (u : Bool) → u ≡ same (block_of s x.0).body w → u ≡ named s r i w
    named-taken w u f =
        f
        ∙ ap (λ (b : Block). same b.body w) name-stands.block
        ∙ ap (λ (y : Slot). same (block_in s y.0).body w) e
        ∙ sym (ap (λ (y : Bool). y && same (block_in s (slot_at (block_in s r) i).0).body w) taken_there)

-- what is no directory blocks the way
pub step-blocked : (os : Objects) (r : ℕ) (w : List ℕ) → is_dir (block_at os r) ≡ false → blocked ≡ step os r w
unfolding step
step-blocked os r w e = sym (rw (e, step))

module _ (os : Objects) (r : ℕ) (d : is_dir (block_at os r) ≡ true) (w : List ℕ) where
  pub step-found : (o : Option ℕ) → o ≡ slot_named os (block_at os r) w → child (block_at os r) o ≡ step os r w
  unfolding step
  step-found o e = sym (rw (d, step) (ap (child (block_at os r)) (sym e)))

-- ---- what a step reaches is an object

pub step-object : {s : List ℕ} → AllBytes s → (r : ℕ) → well_formed s ≡ true → (w : List ℕ) (q : ℕ) → at q ≡ step (objects (volume_of s)) r w → ObjectAt s q
unfolding step
step-object {s} h r e w q f = go (is_dir (block_in s r)) refl f
  where
    reached-child : (d : DirectoryIn s r) (o : Option ℕ) → slot_named (objects (volume_of s)) (block_in s r) w ≡ o → at q ≡ child (block_in s r) o → ObjectAt s q
    reached-child d none g k = let z : ◌≡◌ {A = ℕ} 0 1 = cc in absurd (omega arith)
    reached-child d (some i) g k =
        let m : (slot_at (block_in s r) i).1 ≡ q = cc in
        let x = found-slot _ (block_in s r) i g in
        subst (ObjectAt s) m (slot-object h d i x.0 (and_true (taken (slot_at (block_in s r) i)) _ x.1).0)

    go : (t : Bool) → is_dir (block_in s r) ≡ t → at q ≡ elim t [ false ↦ blocked | true ↦ child (block_in s r) (slot_named (objects (volume_of s)) (block_in s r) w) ] → ObjectAt s q
    go true d f = reached-child (record { formed = e; kind = d }) (slot_named (objects (volume_of s)) (block_in s r) w) refl f
    go false d f = let z : ◌≡◌ {A = ℕ} 0 1 = cc in absurd (omega arith)

-- ---- the loop along the components

-- a step that is told to reach a ref
walked_child : (x : Walk) (q : ℕ) → reached q ≡ walked x → at q ≡ x
walked_child missing q e = cc
walked_child blocked q e = cc
walked_child (at r) q e = cc

pub record Walking (s : List ℕ) (ws : List (List ℕ)) (r i : ℕ) : Type 0 where
  pub object : ObjectAt s r
  pub so_far : walk (objects (volume_of s)) (volume_of s).root ws ≡ walk (objects (volume_of s)) r (drop i ws)

pub walking_start : {s : List ℕ} → AllBytes s → well_formed s ≡ true → (ws : List (List ℕ)) (r : ℕ) → r ≡ (volume_of s).root → Walking s ws r 0
walking_start {s} h e ws r q =
    subst (λ (x : ℕ). Walking s ws x 0) (sym q) (record { object = root-object h e; so_far = refl })

module _ {s : List ℕ} {ws : List (List ℕ)} {r i : ℕ} (k : Walking s ws r i) where
  pub walking_end : length ws ≤ i → reached r ≡ walked (walk (objects (volume_of s)) (volume_of s).root ws)
  unfolding walk
  walking_end l = sym (ap walked (k.so_far ∙ ap (walk (objects (volume_of s)) r) (drop_of_length-le ws {i = i} l)))

  module _ (l : i < length ws) {w : List ℕ} (e : w ≡ get_or ws i []) (x : Walk) (f : x ≡ step (objects (volume_of s)) r w) where
    stepped : walk (objects (volume_of s)) (volume_of s).root ws
        ≡ elim x [ missing ↦ missing | blocked ↦ blocked | at q ↦ walk (objects (volume_of s)) q (drop (i + 1) ws) ]
    unfolding walk
    stepped =
        k.so_far
        ∙ ap (walk (objects (volume_of s)) r) (drop-cons ws i [] l)
        ∙ ap (λ (y : Walk). elim y as (λ _. Walk) [ missing ↦ missing | blocked ↦ blocked | at q ↦ walk (objects (volume_of s)) q (drop (suc i) ws) ])
        (ap (step (objects (volume_of s)) r) (sym e) ∙ sym f)
        ∙ ap (λ (n : ℕ). elim x as (λ _. Walk) [ missing ↦ missing | blocked ↦ blocked | at q ↦ walk (objects (volume_of s)) q (drop n ws) ]) (sym (add-one i))

  -- a step to a child, or to none
  pub walking_on : AllBytes s → i < length ws → {w : List ℕ} → w ≡ get_or ws i [] → (q : ℕ) → reached q ≡ walked (step (objects (volume_of s)) r w) → Walking s ws q (i + 1)
  walking_on h l {w} e q f =
      let g = walked_child _ q f in
      record { object = step-object h r k.object.formed w q g; so_far = stepped l e (at q) g }

  pub walking_out : i < length ws → {w : List ℕ} → w ≡ get_or ws i [] → (n : Refusal) → refused n ≡ walked (step (objects (volume_of s)) r w)
      → refused n ≡ walked (walk (objects (volume_of s)) (volume_of s).root ws)
  walking_out l {w} e n f = go (step (objects (volume_of s)) r w) refl f
    where
      go : (x : Walk) → x ≡ step (objects (volume_of s)) r w → refused n ≡ walked x → refused n ≡ walked (walk (objects (volume_of s)) (volume_of s).root ws)
      go missing f g = g ∙ sym (ap walked (stepped l e missing f))
      go blocked f g = g ∙ sym (ap walked (stepped l e blocked f))
      go (at q) f g = cc

-- ---- how a call begins

-- what is looked for first
module _ (s path : List ℕ) (allowed : Bool) where
  pub opening-broken : well_formed s ≡ false → check s ≡ opening s path allowed
  unfolding opening
  opening-broken e = sym (rw (e, opening))

  module _ (a : Accepted ≡ check s) where
    e : well_formed s ≡ true
    e = checked_formed s a

    pub opening-path : valid_path path ≡ false → For BadPath ≡ opening s path allowed
    unfolding opening
    opening-path f = sym (rw (e, f, opening))

    module _ (f : valid_path path ≡ true) where
      pub opening-bounds : allowed ≡ false → For OutOfBounds ≡ opening s path allowed
      unfolding opening
      opening-bounds g = sym (rw (e, f, g, opening))

      pub opening_none : allowed ≡ true → Accepted ≡ opening s path allowed
      unfolding opening
      opening_none g = sym (rw (e, f, g, opening))

  pub opened : number_of (opening s path allowed) ≡ 0 → (well_formed s ≡ true) × (valid_path path ≡ true) × (allowed ≡ true)
  unfolding opening check well_formed verdict
  opened e = go (well_formed s) (valid_path path) allowed refl refl refl e
    where
      go : (a b c : Bool) → well_formed s ≡ a → valid_path path ≡ b → allowed ≡ c
          → number_of (cond a (cond b (cond c Accepted (For OutOfBounds)) (For BadPath)) (cond a Accepted (broken (verdict s)))) ≡ 0
          → (well_formed s ≡ true) × (valid_path path ≡ true) × (allowed ≡ true)
      go true true true x y z e = (x, y, z)
      go true true false x y z e = absurd (omega arith)
      go true false c x y z e = absurd (omega arith)
      go false b c x y z e = absurd (omega arith)

  -- what is looked for first, told as a refusal
  pub not_opened : (r : declared-refusal.Refusal) → refused_as r ≡ opening s path allowed → accepted (opening s path allowed) ≡ false
  unfolding opening check well_formed verdict
  not_opened r e = go (well_formed s) (valid_path path) allowed refl e
    where
      go : (a b c : Bool) → well_formed s ≡ a → refused_as r ≡ cond a (cond b (cond c Accepted (For OutOfBounds)) (For BadPath)) (check s)
          → accepted (cond a (cond b (cond c Accepted (For OutOfBounds)) (For BadPath)) (check s)) ≡ false
      go true true true x e = absurd (never_accepted r e)
      go true true false x e = refl
      go true false c x e = refl
      go false b c x e = check-refused s x

-- r is what was looked for first, and n its number
module _ {r : Refusal} (m : Refusal) (x : Start) (e : r ≡ m) {n : ℕ} (f : n ≡ number_of r) where
  pub or_refused_lem : (n ≡ 0 → ⊥) → refused r ≡ or_refused m x
  or_refused_lem z = ap refused e ∙ sym (ap (λ (t : Bool). cond t x (refused m)) (ne_eqb (number_of m) 0 (λ q. z (f ∙ ap number_of e ∙ q))))

  pub or_passed : n ≡ 0 → x ≡ or_refused m x
  or_passed z = sym (ap (λ (t : Bool). cond t x (refused m)) (eq-eqb (number_of m) 0 (ap number_of (sym e) ∙ sym f ∙ z)))

-- what reaches a ref was not refused first
pub reached_opened : (m : Refusal) (x : Start) (r : ℕ) → reached r ≡ or_refused m x → (number_of m ≡ 0) × (reached r ≡ x)
reached_opened m x r e = go (accepted m) refl e
  where
    go : (t : Bool) → accepted m ≡ t → reached r ≡ cond t x (refused m) → (number_of m ≡ 0) × (reached r ≡ x)
    go true q e = (eqb-true (number_of m) 0 q, e)
    go false q e = let z : ◌≡◌ {A = ℕ} 0 1 = cc in absurd (omega arith)

-- a ref that a walk reaches is an object
pub walked-object : {s : List ℕ} → AllBytes s → well_formed s ≡ true → (ws : List (List ℕ)) (r : ℕ) → reached r ≡ walk_from s ws → ObjectAt s r
unfolding walk
walked-object {s} h e ws r f = along ws (volume_of s).root (root-object h e) f
  where
    along : (ws : List (List ℕ)) (q : ℕ) → ObjectAt s q → reached r ≡ walked (walk (objects (volume_of s)) q ws) → ObjectAt s r
    along [] q o g = let m : q ≡ r = cc in subst (ObjectAt s) m o
    along (w ∷ ws) q o g = by_step (step (objects (volume_of s)) q w) refl g (along ws)
      where
        by_step : (x : Walk) → step (objects (volume_of s)) q w ≡ x
            → reached r ≡ walked (elim x as (λ _. Walk) [ missing ↦ missing | blocked ↦ blocked | at p ↦ walk (objects (volume_of s)) p ws ])
            → ((p : ℕ) → ObjectAt s p → reached r ≡ walked (walk (objects (volume_of s)) p ws) → ObjectAt s r) → ObjectAt s r
        by_step missing d g k = let z : ◌≡◌ {A = ℕ} 0 1 = cc in absurd (omega arith)
        by_step blocked d g k = let z : ◌≡◌ {A = ℕ} 0 1 = cc in absurd (omega arith)
        by_step (at p) d g k = k p (step-object h q e w p (sym d)) g

-- a walk in a row that is the same
pub walk-same : {s t : List ℕ} → t ≡ s → {x : Start} (ws : List (List ℕ)) → x ≡ walk_from t ws → x ≡ walk_from s ws
walk-same q ws e = e ∙ ap (λ (u : List ℕ). walk_from u ws) q

-- where what is looked for first is none: the image is well formed, and a ref that a walk reaches is an object
module _ (s path : List ℕ) (allowed : Bool) (o : Accepted ≡ opening s path allowed) where
  pub opened_formed : well_formed s ≡ true
  opened_formed = (opened s path allowed (ap number_of (sym o))).0

  pub opened_valid : valid_path path ≡ true
  opened_valid = (opened s path allowed (ap number_of (sym o))).1

-- by what is looked for first: a refusal, or none
module _ (s path : List ℕ) (allowed : Bool) (x : Start) where
  pub first-refused : (r : declared-refusal.Refusal) → refused_as r ≡ opening s path allowed → refused (refused_as r) ≡ or_refused (opening s path allowed) x
  first-refused r e = ap refused e ∙ sym (ap (λ (t : Bool). cond t x (refused (opening s path allowed))) (not_opened s path allowed r e))

  pub first-passed : Accepted ≡ opening s path allowed → x ≡ or_refused (opening s path allowed) x
  first-passed e = ap (λ (m : Refusal). or_refused m x) e

pub start-object : {s : List ℕ} → AllBytes s → (path : List ℕ) (allowed : Bool) (r : ℕ) → reached r ≡ start s path allowed → ObjectAt s r
unfolding start
start-object {s} h path allowed r f =
    let x = reached_opened (opening s path allowed) _ r f in
    walked-object h (opened s path allowed x.0).0 (components path) r x.1

-- ---- a call on a file

module _ (s : List ℕ) where
  pub file-directory : {x : Start} (r : ℕ) → reached r ≡ x → is_file (block_in s r) ≡ false → refused (For IsDirectory) ≡ as_file s x
  file-directory r e f = sym (ap (λ (t : Bool). cond t (reached r) (refused (For IsDirectory))) f) ∙ ap (as_file s) e

  -- what is reached was reached as a file
  pub reached-file : (x : Start) (r : ℕ) → reached r ≡ as_file s x → (reached r ≡ x) × (is_file (block_in s r) ≡ true)
  reached-file (refused n) r e = cc
  reached-file (reached q) r e = go (is_file (block_in s q)) refl e
    where
      go : (t : Bool) → is_file (block_in s q) ≡ t → reached r ≡ cond t (reached q) (refused (For IsDirectory)) → (reached r ≡ reached q) × (is_file (block_in s r) ≡ true)
      go true f e = let m : q ≡ r = cc in (e, subst (λ (n : ℕ). is_file (block_in s n) ≡ true) m f)
      go false f e = cc

  -- what tells a directory as a refusal may take it from here
  pub over_file : {A : Type 0} (f : Start → A) (g : ℕ → A) → ((r : ℕ) → f (reached r) ≡ cond (is_file (block_in s r)) (g r) (f (refused (For IsDirectory))))
      → (x : Start) → f (as_file s x) ≡ f x
  over_file f g k (refused n) = refl
  over_file {A} f g k (reached r) = go (is_file (block_in s r)) (k r)
    where
      go : (t : Bool) → f (reached r) ≡ cond t (g r) (f (refused (For IsDirectory))) → f (cond t (reached r) (refused (For IsDirectory))) ≡ f (reached r)
      go true e = refl
      go false e = sym e

pub file-object : {s : List ℕ} → AllBytes s → (path : List ℕ) (allowed : Bool) (r : ℕ) → reached r ≡ as_file s (start s path allowed) → FileIn s r
file-object {s} h path allowed r e =
    let x = reached-file s _ r e in
    record { formed = (start-object h path allowed r x.0).formed; kind = x.1 }

-- ---- the directory above the last component

module _ (s path : List ℕ) (allowed : Bool) (top : Reason) where
  pub above-first : (r : declared-refusal.Refusal) → refused_as r ≡ opening s path allowed → refused (refused_as r) ≡ start_above s path allowed top
  unfolding start_above
  above-first = first-refused s path allowed (above_last s top (components path))

  module _ (o : Accepted ≡ opening s path allowed) where
    passed : {x : Start} → x ≡ above_last s top (components path) → x ≡ start_above s path allowed top
    unfolding start_above
    passed e = e ∙ first-passed s path allowed (above_last s top (components path)) o

    pub above_root : {m : ℕ} → m ≡ length (components path) → m ≡ 0 → refused (For top) ≡ start_above s path allowed top
    above_root e y = passed (go (components path) (sym e ∙ y))
      where
        go : (ws : List (List ℕ)) → length ws ≡ 0 → refused (For top) ≡ above_last s top ws
        go [] e = refl
        go (w ∷ ws) e = absurd (omega arith)

    -- not the root: what the walk came to
    module _ {m : ℕ} (c : m ≡ length (components path)) (y : m ≡ 0 → ⊥) (p : List ℕ) (q : p ≡ directory_of path) {t : List ℕ} (k : t ≡ s) where
      came : (x : Start) → x ≡ walk_from t (components p) → as_directory s x ≡ start_above s path allowed top
      came x e =
          passed (go (components path) (λ u. y (c ∙ u))
          (walk-same k _ e ∙ ap (λ (u : List ℕ). walk_from s (components u)) q ∙ ap (walk_from s) (directory-components path (opened_valid s path allowed o))))
        where
          go : (ws : List (List ℕ)) → (length ws ≡ 0 → ⊥) → x ≡ walk_from s (all_but_last ws) → as_directory s x ≡ above_last s top ws
          go [] u f = absurd (u refl)
          go (w ∷ ws) u f = ap (as_directory s) f

      pub above-refused : (n : Refusal) → refused n ≡ walk_from t (components p) → refused n ≡ start_above s path allowed top
      above-refused n e = came (refused n) e

      module _ (d : ℕ) (e : reached d ≡ walk_from t (components p)) where
        pub above-file : is_dir (block_in s d) ≡ false → refused (For NotDirectory) ≡ start_above s path allowed top
        above-file f = sym (ap (λ (b : Bool). cond b (reached d) (refused (For NotDirectory))) f) ∙ came (reached d) e

        pub above-directory : is_dir (block_in s d) ≡ true → reached d ≡ start_above s path allowed top
        above-directory f = sym (ap (λ (b : Bool). cond b (reached d) (refused (For NotDirectory))) f) ∙ came (reached d) e

-- what is reached above the last component is a directory, and there is a last component
pub record Above (s path : List ℕ) (d : ℕ) : Type 0 where
  pub directory : DirectoryIn s d
  pub valid : valid_path path ≡ true
  pub some_name : length (components path) ≡ 0 → ⊥

pub reached-above : (s path : List ℕ) (allowed : Bool) (top : Reason) (d : ℕ) → reached d ≡ start_above s path allowed top → (allowed ≡ true) × Above s path d
unfolding start_above
reached-above s path allowed top d f =
    let x = reached_opened (opening s path allowed) _ d f in
    let o = opened s path allowed x.0 in
    (o.2, go o.0 (components path) refl x.1 o.1)
  where
    by_kind : (x : Start) → reached d ≡ as_directory s x → is_dir (block_in s d) ≡ true
    by_kind (refused n) g = let z : ◌≡◌ {A = ℕ} 0 1 = cc in absurd (omega arith)
    by_kind (reached q) g = kind (is_dir (block_in s q)) refl g
      where
        kind : (t : Bool) → is_dir (block_in s q) ≡ t → reached d ≡ cond t (reached q) (refused (For NotDirectory)) → is_dir (block_in s d) ≡ true
        kind true k g = let m : q ≡ d = cc in subst (λ (r : ℕ). is_dir (block_in s r) ≡ true) m k
        kind false k g = let z : ◌≡◌ {A = ℕ} 0 1 = cc in absurd (omega arith)

    go : well_formed s ≡ true → (ws : List (List ℕ)) → components path ≡ ws → reached d ≡ above_last s top ws → valid_path path ≡ true → Above s path d
    go e [] c g v = let z : ◌≡◌ {A = ℕ} 0 1 = cc in absurd (omega arith)
    go e (w ∷ ws) c g v = record {
      directory = record { formed = e; kind = by_kind (walk_from s (all_but_last (w ∷ ws))) g };
      valid = v;
      some_name = λ z. let y : length (w ∷ ws) ≡ 0 = ap length (sym c) ∙ z in absurd (omega arith);
    }

-- the last component, as it is read
module _ (path : List ℕ) {n : ℕ} (e : n ≡ length (components path)) where
  pub last_some : {w : List ℕ} → w ≡ get_or (components path) (n - 1) [] → w ≡ last_name path
  unfolding last_name
  last_some f = f ∙ ap (λ (i : ℕ). get_or (components path) (i - 1) []) e

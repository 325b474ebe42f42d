-- Every image that keeps the rules has a tree: its rows are read off from the root down, level by level.
use Prim.Native.Nat.{◌+◌, ◌<◌, ◌≤◌, suc, zero, ℕ}
use mathlib.Core.Bool.{Bool, ◌&&◌, ◌||◌, false, false≢true, not, true}
use mathlib.Core.List.{List, [], ◌∷◌}
use mathlib.Core.Logic.{◌⊎◌, inl, inr}
use mathlib.Core.Path.{◌∙◌, ◌≡◌, ap, ap₂, refl, subst, sym}
use native.Mathlib.Omega.{arith}
use lib.Dec.{eqb}
use lib.ListN.{length}
use borrow.Author.Tests.{eqb-false, eqb-true, not-true}
use Rattle.history.proofs.Tested.{name_no_dir}
use Rattle.storage.specs.Bytes.{same}
use Rattle.storage.proofs.Booleans.{and_true}
use Rattle.path.proofs.ValidNames.{valid-name}
use Rattle.alloc.specs.Volume.{Objects, block_at}
use Rattle.tree.specs.Fields.{Slot, is_dir, is_file, parent, slot_at, slots, taken, total}
use Rattle.tree.specs.Rules.{distinct, name_in}
use Rattle.tree.specs.Verdict.{BlockRule, rule3, rule4, rule5, rule6, rule7}
use Rattle.tree.specs.WellFormed.{Climbs, Every, EveryObject, Keeps, Names, RootStands, SlotStands, is-empty, is-taken}
use Rattle.tree.proofs.Breakers.{every_at}
use Rattle.tree.proofs.Formed as formed
use Rattle.tree.proofs.Formed.{Filled, slot-filled}
use Rattle.tree.proofs.Indexed.{slots-distinct, slots_every, slots-other}
use Rattle.tree.proofs.Namings.{Rises}
use Rattle.history.proofs.Counting.{kids, named-sum, pair_of, pairs_of, sum-at, sum_split, there}
use Rattle.history.proofs.Nodes.{FileNode, NameNode, Node, Rep, Stands, dir, empty, end, file, height, named, slots_of, sum_of}
use Rattle.history.proofs.Refs.{times_below, times_once}
use Rattle.history.proofs.Sums.{Item, sum}
use Rattle.history.proofs.Walks.{taken_some}

-- ---- the row of nodes of a row of slots, and of the directory at a ref, with so many levels

unfoldable pub row_of : Objects → (ℕ → Node) → List Slot → Node
row_of os sub [] = end
row_of os sub (s ∷ ss) =
    elim (taken s) [
      | false ↦ empty (row_of os sub ss)
      | true ↦ elim (is_dir (block_at os s.1)) [
        | false ↦ file s.0 s.1 (block_at os s.0) (block_at os s.1) (row_of os sub ss)
        | true ↦ dir s.0 s.1 (block_at os s.0) (block_at os s.1) (sub s.1) (row_of os sub ss)
      ]
    ]

unfoldable pub row_at : Objects → ℕ → ℕ → Node
row_at os zero r = end
row_at os (suc k) r = row_of os (row_at os k) (slots (block_at os r))

pub row-at : (os : Objects) (k r : ℕ) → row_at os (suc k) r ≡ row_of os (row_at os k) (slots (block_at os r))
unfolding row_at
row-at os k r = refl

-- one slot
module _ (os : Objects) (sub : ℕ → Node) where
  pub row-end : row_of os sub [] ≡ end
  unfolding row_of
  row-end = refl

  pub row-empty : (s : Slot) (ss : List Slot) → taken s ≡ false → row_of os sub (s ∷ ss) ≡ empty (row_of os sub ss)
  unfolding row_of
  row-empty s ss e = rw (row_of, e)

  pub row-file : (s : Slot) (ss : List Slot) → taken s ≡ true → is_dir (block_at os s.1) ≡ false
      → row_of os sub (s ∷ ss) ≡ file s.0 s.1 (block_at os s.0) (block_at os s.1) (row_of os sub ss)
  unfolding row_of
  row-file s ss t e = rw (row_of, t, e)

  pub row_dir : (s : Slot) (ss : List Slot) → taken s ≡ true → is_dir (block_at os s.1) ≡ true
      → row_of os sub (s ∷ ss) ≡ dir s.0 s.1 (block_at os s.0) (block_at os s.1) (sub s.1) (row_of os sub ss)
  unfolding row_of
  row_dir s ss t e = rw (row_of, t, e)

  -- the names in a row are those of its slots
  named_in : (w : List ℕ) (ss : List Slot) → named w (row_of os sub ss) ≡ name_in os w ss
  unfolding row_of name_in
  named_in w [] = refl
  named_in w (s ∷ ss) = go (taken s) (is_dir (block_at os s.1)) refl refl (named_in w ss)
    where
      go : (p q : Bool) → taken s ≡ p → is_dir (block_at os s.1) ≡ q → named w (row_of os sub ss) ≡ name_in os w ss
          → named w (row_of os sub (s ∷ ss)) ≡ ((p && same (block_at os s.0).body w) || name_in os w ss)
      go false q t e k = rw (row-empty s ss t) k
      go true false t e k = rw (row-file s ss t e) (ap (λ (b : Bool). same (block_at os s.0).body w || b) k)
      go true true t e k = rw (row_dir s ss t e) (ap (λ (b : Bool). same (block_at os s.0).body w || b) k)

-- what is no directory has no row
row_leaf : (os : Objects) (k r : ℕ) → is_dir (block_at os r) ≡ false → row_at os k r ≡ end
unfolding row_at row_of
row_leaf os zero r h = refl
row_leaf os (suc k) r h = rw (slots-other (block_at os r) h)

-- ---- the fewest steps to the root

record Fewest (os : Objects) (root r k : ℕ) : Type 0 where
  steps : ℕ
  few : steps ≤ k
  climbs : Climbs os root steps r
  least : (j : ℕ) → Climbs os root j r → steps ≤ j

fewest : (os : Objects) (root k r : ℕ) → Climbs os root k r → Fewest os root r k
fewest os root zero r h = record { steps = 0; few = omega arith; climbs = h; least = λ j g. omega arith }
fewest os root (suc k) r h = go (eqb r root) refl (fewest os root k (parent (block_at os r)) h.1)
  where
    other : (d : ℕ) → (r ≡ root → ⊥) → ((j : ℕ) → Climbs os root j (parent (block_at os r)) → d ≤ j)
        → (j : ℕ) → Climbs os root j r → suc d ≤ j
    other d n f zero g = absurd (n g)
    other d n f (suc j) g = omega (arith, f j g.1)

    go : (q : Bool) → eqb r root ≡ q → Fewest os root (parent (block_at os r)) k → Fewest os root r (suc k)
    go true e x = record { steps = 0; few = omega arith; climbs = eqb-true r root e; least = λ j g. omega arith }
    go false e x = record {
      steps = suc x.steps;
      few = omega (arith, x.few);
      climbs = (h.0, x.climbs);
      least = other x.steps (eqb-false r root e) x.least;
    }

-- ---- of objects that keep rules 2 to 7

module _ (os : Objects) (root : ℕ) (rises : Rises 2 os) (top : RootStands os root) (rules : (n : BlockRule) → EveryObject (Keeps n os root) os)
    (whole : (r : ℕ) → is_file (block_at os r) ≡ true → 16 ≤ length (block_at os r).body) where
  -- a rule, of a directory
  of_dirs : (n : BlockRule) (r : ℕ) → is_dir (block_at os r) ≡ true → Keeps n os root r (block_at os r)
  of_dirs n r d = every_at (Keeps n os root) os (rules n) r (formed.dir_there (block_at os r) d)

  -- the directory at r is d steps from the root
  record Deep (r d : ℕ) : Type 0 where
    is_dir : is_dir (block_at os r) ≡ true
    climbs : Climbs os root d r
    least : (j : ℕ) → Climbs os root j r → d ≤ j
    low : d ≤ 16
    holder : (i : ℕ) → i < total (block_at os r) → taken (slot_at (block_at os r) i) ≡ true → d ≤ 15

  deep : (r : ℕ) → is_dir (block_at os r) ≡ true → (d : ℕ) × Deep r d
  deep r e =
      let c = of_dirs rule5 r e e in
      let x = fewest os root c.depth r c.climbs in (
        x.steps,
        record {
          is_dir = e;
          climbs = x.climbs;
          least = x.least;
          low = omega (arith, c.low, x.few);
          holder = λ i l t. omega (arith, c.holder i l t, x.few);
        },
      )

  -- a taken slot of the directory r: a directory in it has r as its parent, and is one step deeper
  record SubDir (r d o : ℕ) : Type 0 where
    parent : parent (block_at os o) ≡ r
    deep : Deep o (suc d)

  record SlotDeep (r d : ℕ) (s : Slot) : Type 0 where
    filled : Filled os s
    low : d ≤ 15
    sub : is_dir (block_at os s.1) ≡ true → SubDir r d s.1

  sub_dir : (r d o i : ℕ) → Deep r d → Names (block_at os r) i o → is_dir (block_at os o) ≡ true → SubDir r d o
  sub_dir r d o i k h e =
      let x = deep o e in
      let n = of_dirs rule4 o e in
      let p : parent (block_at os o) ≡ r = sym (n.held e r i h) in
      let q : x.0 ≤ suc d = x.1.least (suc d) (e, subst (Climbs os root d) (sym p) k.climbs) in
      record {
        parent = p;
        deep = subst (Deep o) (omega (arith, below x.0 x.1.climbs p (λ z. n.top z r i h))) x.1;
      }
    where
      below : (n : ℕ) → Climbs os root n o → parent (block_at os o) ≡ r → (o ≡ root → ⊥) → suc d ≤ n
      below zero c p f = absurd (f c)
      below (suc n) c p f = omega (arith, k.least n (subst (Climbs os root n) p c.1))

  slots_deep : (r d : ℕ) → Deep r d → Every (λ s. taken s ≡ true → SlotDeep r d s) (slots (block_at os r))
  slots_deep r d k =
      slots_every (λ s. taken s ≡ true → SlotDeep r d s) (block_at os r) (λ e i l t. record {
        filled = slot-filled os (slot_at (block_at os r) i) (of_dirs rule3 r e e i l) t;
        low = k.holder i l t;
        sub = sub_dir r d (slot_at (block_at os r) i).1 i k (record { is_dir = e; inside = l; refs = inr refl });
      })

  stand : (r : ℕ) → is_dir (block_at os r) ≡ true → Every (SlotStands os) (slots (block_at os r))
  stand r e = slots_every (SlotStands os) (block_at os r) (of_dirs rule3 r e)

  -- ---- a row has the slots it is read from

  empty-taken : (s : Slot) → s.1 ≡ 0 → taken s ≡ false
  empty-taken s e = rw e

  row-slots : (sub : ℕ → Node) (ss : List Slot) → Every (SlotStands os) ss → slots_of (row_of os sub ss) ≡ ss
  row-slots sub [] h = rw (row-end os sub)
  row-slots sub (s ∷ ss) h = go h.0 (is_dir (block_at os s.1)) refl (row-slots sub ss h.1)
    where
      go : SlotStands os s → (q : Bool) → is_dir (block_at os s.1) ≡ q → slots_of (row_of os sub ss) ≡ ss → slots_of (row_of os sub (s ∷ ss)) ≡ s ∷ ss
      go (is-empty a b) q x k =
          let y : s ≡ (0, 0) = λ i. (a i, b i) in
          rw (row-empty os sub s ss (empty-taken s b)) (ap₂ (λ (a : Slot) (l : List Slot). a ∷ l) (sym y) k)
      go (is-taken a b c d) false x k = rw (row-file os sub s ss (taken_some s.0 s.1 b) x) (ap (λ (l : List Slot). s ∷ l) k)
      go (is-taken a b c d) true x k = rw (row_dir os sub s ss (taken_some s.0 s.1 b) x) (ap (λ (l : List Slot). s ∷ l) k)

  dir_slots : (r k : ℕ) → is_dir (block_at os r) ≡ true → slots_of (row_at os (suc k) r) ≡ slots (block_at os r)
  dir_slots r k e = rw (row-at os k r) (row-slots (row_at os k) (slots (block_at os r)) (stand r e))

  -- ---- a row stands, is low enough, and is the same with one level more

  record Grown (r d : ℕ) (c more : Node) : Type 0 where
    stands : Stands r c
    low : height c + d ≤ 16
    same : (f : Item → ℕ) → sum_of f more ≡ sum_of f c

  name_node : (s : Slot) → Filled os s → NameNode s.0 (block_at os s.0)
  name_node s t = record {
    some = t.name-ref;
    is_name = t.is_name;
    valid = (valid-name _).1 ((every_at (Keeps rule6 os root) os (rules rule6) s.0 (formed.name-there (block_at os s.0) t.is_name)).valid t.is_name);
  }

  file_node : (s : Slot) → Filled os s → is_dir (block_at os s.1) ≡ false → FileNode s.1 (block_at os s.1)
  file_node s t e = go t.kind
    where
      go : (is_file (block_at os s.1) ≡ true) ⊎ (is_dir (block_at os s.1) ≡ true) → FileNode s.1 (block_at os s.1)
      go (inl h) =
          let f = every_at (Keeps rule7 os root) os (rules rule7) s.1 (formed.file-there (block_at os s.1) h) h in
          record { some = t.object-ref; is_file = h; fits = f.fits; reserved = f.reserved; whole = whole s.1 h }
      go (inr h) = absurd (false≢true (sym e ∙ h))

  -- rule 6: the name of a taken slot is not among the names behind it
  name_once : (sub : ℕ → Node) (s : Slot) (ss : List Slot) → distinct os (s ∷ ss) ≡ true → taken s ≡ true
      → named (block_at os s.0).body (row_of os sub ss) ≡ false
  unfolding distinct
  name_once sub s ss u t =
      named_in os sub (block_at os s.0).body ss
      ∙ (rw t at (not-true (taken s && name_in os (block_at os s.0).body ss) (and_true _ (distinct os ss) u).0))

  rest_distinct : (s : Slot) (ss : List Slot) → distinct os (s ∷ ss) ≡ true → distinct os ss ≡ true
  unfolding distinct
  rest_distinct s ss u = (and_true (not (taken s && name_in os (block_at os s.0).body ss)) (distinct os ss) u).1

  -- a directory's row, with k levels below it
  grow_row : (k r d : ℕ) → ((o : ℕ) → Deep o (suc d) → Grown o (suc d) (row_at os k o) (row_at os (suc k) o))
      → ((o : ℕ) → Deep o (suc d) → slots_of (row_at os k o) ≡ slots (block_at os o))
      → d ≤ 16 → (ss : List Slot) → Every (λ s. taken s ≡ true → SlotDeep r d s) ss → distinct os ss ≡ true
      → Grown r d (row_of os (row_at os k) ss) (row_of os (row_at os (suc k)) ss)
  grow_row k r d ih is l [] g u =
      rw (row-end os (row_at os k), row-end os (row_at os (suc k))) (record { stands = tt; low = omega arith; same = λ f. refl })
  grow_row k r d ih is l (s ∷ ss) g u =
      go (taken s) (is_dir (block_at os s.1)) refl refl g.0 (grow_row k r d ih is l ss g.1 (rest_distinct s ss u))
    where
      go : (p q : Bool) → taken s ≡ p → is_dir (block_at os s.1) ≡ q → (taken s ≡ true → SlotDeep r d s)
          → Grown r d (row_of os (row_at os k) ss) (row_of os (row_at os (suc k)) ss)
          → Grown r d (row_of os (row_at os k) (s ∷ ss)) (row_of os (row_at os (suc k)) (s ∷ ss))
      go false q e x f w =
          rw (row-empty os (row_at os k) s ss e, row-empty os (row_at os (suc k)) s ss e) (record { stands = w.stands; low = w.low; same = w.same })
      go true false e x f w =
          let t = f e in
          rw (row-file os (row_at os k) s ss e x, row-file os (row_at os (suc k)) s ss e x) (record {
            stands = (name_node s t.filled, file_node s t.filled x, name_once (row_at os k) s ss u e, w.stands);
            low = omega (arith, t.low, w.low);
            same = λ f. omega (arith, w.same f);
          })
      go true true e x f w =
          let t = f e in
          let b = t.sub x in
          let c = ih s.1 b.deep in
          rw (row_dir os (row_at os k) s ss e x, row_dir os (row_at os (suc k)) s ss e x) (record {
            stands = (
              name_node s t.filled,
              record { some = t.filled.object-ref; is_dir = x; parent = b.parent; slots = sym (is s.1 b.deep) },
              name_once (row_at os k) s ss u e,
              c.stands,
              w.stands,
            );
            low = omega (arith, c.low, w.low);
            same = λ f. omega (arith, c.same f, w.same f);
          })

  -- with levels down to depth 17
  grow : (k r d : ℕ) → Deep r d → 17 ≤ k + d → Grown r d (row_at os k r) (row_at os (suc k) r)
  grow zero r d h l = absurd (omega (arith, h.low))
  grow (suc k) r d h l =
      rw (row-at os k r, row-at os (suc k) r)
      (grow_row k r d (λ o g. grow k o (suc d) g (omega arith)) (λ o g. leaf k o g (omega arith)) h.low (slots (block_at os r)) (slots_deep r d h)
      (slots-distinct os (block_at os r) (of_dirs rule6 r h.is_dir).distinct))
    where
      leaf : (k o : ℕ) → Deep o (suc d) → 17 ≤ k + suc d → slots_of (row_at os k o) ≡ slots (block_at os o)
      leaf zero o g l = absurd (omega (arith, g.low))
      leaf (suc k) o g l = dir_slots o k g.is_dir

  -- ---- the sums

  -- the weight of an object and of all below it
  abbrev reach : ℕ → (Item → ℕ) → Item → ℕ
  reach k f o = f o + sum_of f (row_at os k o.0)

  row-sum : (k : ℕ) (f : Item → ℕ) (ss : List Slot) → Every (SlotStands os) ss → sum_of f (row_of os (row_at os k) ss) ≡ pairs_of (reach k f) os ss
  row-sum k f [] h = rw (row-end os (row_at os k))
  row-sum k f (s ∷ ss) h = go h.0 (is_dir (block_at os s.1)) refl (row-sum k f ss h.1)
    where
      go : SlotStands os s → (q : Bool) → is_dir (block_at os s.1) ≡ q → sum_of f (row_of os (row_at os k) ss) ≡ pairs_of (reach k f) os ss
          → sum_of f (row_of os (row_at os k) (s ∷ ss)) ≡ pair_of (reach k f) os s + pairs_of (reach k f) os ss
      go (is-empty a b) q x w = rw (row-empty os (row_at os k) s ss (empty-taken s b), b) (omega arith)
      go (is-taken a b c d) false x w =
          let t = taken_some s.0 s.1 b in
          rw (row-file os (row_at os k) s ss t x, t, row_leaf os k s.0 (name_no_dir (block_at os s.0) c), row_leaf os k s.1 x) (omega arith)
      go (is-taken a b c d) true x w =
          let t = taken_some s.0 s.1 b in
          rw (row_dir os (row_at os k) s ss t x, t, row_leaf os k s.0 (name_no_dir (block_at os s.0) c)) (omega arith)

  -- with 17 levels every row is whole
  level : (f : Item → ℕ) (r : ℕ) → sum_of f (row_at os 17 r) ≡ kids (reach 17 f) os (r, block_at os r)
  level f r = go (is_dir (block_at os r)) refl
    where
      go : (q : Bool) → is_dir (block_at os r) ≡ q → sum_of f (row_at os 17 r) ≡ kids (reach 17 f) os (r, block_at os r)
      go true e =
          let d = deep r e in
          sym ((grow 17 r d.0 d.1 (omega arith)).same f)
          ∙ ap (sum_of f) (row-at os 17 r)
          ∙ row-sum 17 f (slots (block_at os r)) (stand r e)
      go false e = rw (row_leaf os 17 r e, slots-other (block_at os r) e)

  -- what the slots name by the weight of all below is counted twice, and taken off once
  alike : (f : Item → ℕ) → sum f os ≡ f (root, block_at os root) + sum_of f (row_at os 17 root)
  alike f =
      let g : Item → ℕ = reach 17 f in
      let e : sum g os ≡ sum (λ o. f o + kids g os o) os =
      sum-at g (λ o. f o + kids g os o) os rises (λ r. ap (λ (n : ℕ). f (r, block_at os r) + n) (level f r)) in
      omega (
        arith,
        e,
        sum_split (λ o. f o + kids g os o) f (kids g os) os (λ o. refl),
        named-sum os rises g root top.is_dir (rules rule3) (rules rule4),
      )

  root_deep : Deep root 0
  root_deep = record {
    is_dir = top.is_dir;
    climbs = refl;
    least = λ j h. omega arith;
    low = omega arith;
    holder = λ i l t. omega arith;
  }

  root_some : (r : ℕ) → is_dir (block_at os r) ≡ true → 0 < r
  root_some zero e = absurd (omega (arith, there os 0 (formed.dir_there (block_at os 0) e), times_below 2 0 os rises (omega arith)))
  root_some (suc r) e = omega arith

  -- the tree
  pub tree-stands : Rep os root (block_at os root) (row_at os 17 root)
  tree-stands =
      let g = grow 17 root 0 root_deep (omega arith) in
      record {
        alike = alike;
        once = λ r. times_once 2 r os rises;
        top = record {
          some = root_some root top.is_dir;
          is_dir = top.is_dir;
          parent = top.own_parent;
          slots = sym (dir_slots root 16 top.is_dir);
        };
        row = g.stands;
        low = omega (arith, g.low);
      }

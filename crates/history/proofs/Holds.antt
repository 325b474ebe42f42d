-- The rules, from the tree: an image that holds a book is well formed.
use Prim.Native.Nat.{ℕ}
use mathlib.Core.Bool.{true}
use mathlib.Core.List.{List}
use mathlib.Core.Option.{none}
use mathlib.Core.Path.{◌≡◌, refl}
use native.Mathlib.Omega.{arith}
use borrow.Author.Tests.{eq-eqb, le-leb, ne_eqb}
use Rattle.calls.proofs.Contents.{file_no_dir}
use Rattle.alloc.specs.Block.{Block}
use Rattle.alloc.specs.Volume.{Objects, objects, volume_of}
use Rattle.alloc.proofs.Soundness.{sound-chained, sound-tiled}
use Rattle.tree.specs.Rules.{distinct, file_stands, name_in, names_stand, root_stands, slots_stand}
use Rattle.tree.specs.Verdict.{breaker_of, keeps, rule3, rule6, rule7, verdict, verdict_on, well_formed}
use Rattle.tree.proofs.Indexed.{slots-other}
use Rattle.tree.proofs.Namings.{Rises, objects_rise}
use Rattle.history.specs.Book.{Tree}
use Rattle.history.proofs.Depths.{depths_kept}
use Rattle.history.proofs.Good.{Good}
use Rattle.history.proofs.Naming.{naming_kept}
use Rattle.history.proofs.Nodes.{Among, Node, Rep, Stands, dir, empty, end, file, named, slots_of}
use Rattle.history.proofs.Tested.{Nothing, all_good, dir_no_file, dir_no_name, file_no_name, name_no_dir, name_no_file}
use Rattle.history.proofs.Walks.{among_top, file-there, name-there, of_dir, rest_of, root-there, row_of_lem, taken_some}

module _ {os : Objects} {root : ℕ} {rb : Block} {top : Node} (q : Rep os root rb top) where
  -- ---- rule 2

  root_kept : root_stands os root ≡ true
  unfolding root_stands
  root_kept = rw (root-there os root rb top q, q.top.is_dir, q.top.parent, eq-eqb root root refl)

  -- ---- rule 3

  -- the slots of a row stand
  slots_stand_lem : (up : ℕ) (c : Node) → Stands up c → Among os c → slots_stand os (slots_of c) ≡ true
  unfolding slots_stand
  slots_stand_lem up end s h = refl
  slots_stand_lem up (empty t) s h = slots_stand_lem up t s h
  slots_stand_lem up (file n r a b t) s h =
      rw (
        ne_eqb n 0 (λ e. omega (arith, s.0.some)),
        ne_eqb r 0 (λ e. omega (arith, s.1.some)),
        name-there os q.once n r a b t h,
        file-there os q.once n r a b t h,
        s.0.is_name,
        s.1.is_file,
      )
      (slots_stand_lem up t s.3 (rest_of os q.once n r a b t h))
  slots_stand_lem up (dir n r a b c t) s h =
      let k = of_dir os q.once n r a b c t h in
      rw (
        ne_eqb n 0 (λ e. omega (arith, s.0.some)),
        ne_eqb r 0 (λ e. omega (arith, s.1.some)),
        name-there os q.once n r a b t k,
        file-there os q.once n r a b t k,
        s.0.is_name,
        dir_no_file b s.1.is_dir,
        s.1.is_dir,
      )
      (slots_stand_lem up t s.4 (rest_of os q.once n r a b t k))

  slots_kept : breaker_of rule3 os root ≡ none
  unfolding slots_stand
  slots_kept =
      all_good os q.once (keeps rule3 os root) Nothing
      (λ n a i h. rw (slots-other a (name_no_dir a h.is_name)))
      (λ r b i h. rw (slots-other b (file_no_dir b h.is_file)))
      (λ up t k. tt) (λ up n r a b t k. tt) (λ up n r a b c t k. tt)
      (λ up n r a b c t i s h k. (rw s.1.slots (slots_stand_lem r c s.3 (row_of_lem os q.once n r a b c t h)), tt))
      root rb top q (rw q.top.slots (slots_stand_lem root top q.row (among_top os root rb top q))) tt

  -- ---- rule 6

  -- a name is in the slots where it is in the row
  name_in_lem : (w : List ℕ) (up : ℕ) (c : Node) → Stands up c → Among os c → name_in os w (slots_of c) ≡ named w c
  unfolding name_in
  name_in_lem w up end s h = refl
  name_in_lem w up (empty t) s h = name_in_lem w up t s h
  name_in_lem w up (file n r a b t) s h =
      rw (taken_some n r s.1.some, name-there os q.once n r a b t h, name_in_lem w up t s.3 (rest_of os q.once n r a b t h))
  name_in_lem w up (dir n r a b c t) s h =
      let k = of_dir os q.once n r a b c t h in
      rw (taken_some n r s.1.some, name-there os q.once n r a b t k, name_in_lem w up t s.4 (rest_of os q.once n r a b t k))

  -- no two slots of a row have one name
  all_distinct : (up : ℕ) (c : Node) → Stands up c → Among os c → distinct os (slots_of c) ≡ true
  unfolding distinct
  all_distinct up end s h = refl
  all_distinct up (empty t) s h = all_distinct up t s h
  all_distinct up (file n r a b t) s h =
      let i = rest_of os q.once n r a b t h in
      rw (taken_some n r s.1.some, name-there os q.once n r a b t h, name_in_lem a.body up t s.3 i, s.2)
      (all_distinct up t s.3 i)
  all_distinct up (dir n r a b c t) s h =
      let k = of_dir os q.once n r a b c t h in
      let i = rest_of os q.once n r a b t k in
      rw (taken_some n r s.1.some, name-there os q.once n r a b t k, name_in_lem a.body up t s.4 i, s.2)
      (all_distinct up t s.4 i)

  names-kept : breaker_of rule6 os root ≡ none
  unfolding names_stand distinct
  names-kept =
      all_good os q.once (names_stand os) Nothing
      (λ n a i h. rw (h.is_name, h.valid, slots-other a (name_no_dir a h.is_name)))
      (λ r b i h. rw (file_no_name b h.is_file, slots-other b (file_no_dir b h.is_file)))
      (λ up t k. tt) (λ up n r a b t k. tt) (λ up n r a b c t k. tt)
      (λ up n r a b c t i s h k.
      (rw (dir_no_name b s.1.is_dir, s.1.slots) (all_distinct r c s.3 (row_of_lem os q.once n r a b c t h)), tt))
      root rb top q
      (rw (dir_no_name rb q.top.is_dir, q.top.slots) (all_distinct root top q.row (among_top os root rb top q))) tt

  -- ---- rule 7

  files_kept : breaker_of rule7 os root ≡ none
  unfolding file_stands
  files_kept =
      all_good os q.once file_stands Nothing
      (λ n a i h. rw (name_no_file a h.is_name))
      (λ r b i h. rw (h.is_file, le-leb _ _ h.fits, h.reserved))
      (λ up t k. tt) (λ up n r a b t k. tt) (λ up n r a b c t k. tt)
      (λ up n r a b c t i s h k. (rw (dir_no_file b s.1.is_dir), tt))
      root rb top q (rw (dir_no_file rb q.top.is_dir)) tt

  -- ---- all rules of the tree

  pub rules_hold : Rises 2 os → verdict_on os root true ≡ record { rule = 0; place = 0 }
  unfolding verdict_on
  rules_hold i = rw (root_kept, slots_kept, naming_kept q, depths_kept i q, names-kept, files_kept)

-- with rules 1 and 8, which hold of what is sound
pub good_formed : (n : ℕ) (s : List ℕ) (t : Tree) → Good n s t → well_formed s ≡ true
unfolding well_formed verdict objects
good_formed n s t g =
    rw (verdict, (sound-tiled g.sound).rule_1, sound-chained g.sound, rules_hold g.rep (objects_rise 2 (volume_of s).extents))

-- Rule 5, from the tree: parents lead from every directory to the root, in as many steps as it is deep.
use Prim.Native.Nat.{◌+◌, ◌<◌, ◌≤◌, suc, ℕ}
use mathlib.Core.Bool.{Bool, false, false≢true, true}
use mathlib.Core.Option.{none}
use mathlib.Core.Path.{◌∙◌, ◌≡◌, ap, refl, sym}
use native.Mathlib.Omega.{arith}
use lib.Dec.{leb}
use borrow.Author.Tests.{leb-false, leb-true}
use Rattle.calls.proofs.Contents.{file_no_dir}
use Rattle.alloc.specs.Block.{Block}
use Rattle.alloc.specs.Volume.{Objects}
use Rattle.tree.specs.Fields.{is_dir, slot_at, slots, taken, taken_count, total}
use Rattle.tree.specs.Verdict.{breaker_of, keeps, rule5}
use Rattle.tree.specs.WellFormed.{Climbs}
use Rattle.tree.proofs.BlockRules.{keeps_tested}
use Rattle.tree.proofs.Indexed.{every_slots, none_taken}
use Rattle.tree.proofs.Namings.{Rises}
use Rattle.history.proofs.Nodes.{Among, Node, Rep, Stands, dir, empty, end, file, height, slots_of}
use Rattle.history.proofs.Tested.{all_good, name_no_dir}
use Rattle.history.proofs.Walks.{file-there, of_dir}

-- a row of height 0 has nothing in it
none_below : (c : Node) → height c ≤ 0 → taken_count (slots_of c) ≡ 0
unfolding taken_count
none_below end h = refl
none_below (empty t) h = none_below t h
none_below (file n r a b t) h = absurd (omega arith)
none_below (dir n r a b c t) h = absurd (omega arith)

-- so a directory that holds something is at depth 15 at most
holds-low : (d : ℕ) (b : Block) (c : Node) → is_dir b ≡ true → slots b ≡ slots_of c → d + height c ≤ 16
    → (i : ℕ) → i < total b → taken (slot_at b i) ≡ true → d ≤ 15
holds-low d b c k e l i m t = go (leb d 15) refl
  where
    go : (x : Bool) → leb d 15 ≡ x → d ≤ 15
    go true h = leb-true d 15 h
    go false h =
        let z : taken_count (slots b) ≡ 0 = ap taken_count e ∙ none_below c (omega (arith, leb-false d 15 h)) in
        absurd (every_slots (λ s. taken s ≡ true → ⊥) b (none_taken (slots b) z) k i m t)

-- where a row's directory is, by steps to the root
record Deep (os : Objects) (root up : ℕ) (c : Node) : Type 0 where
  depth : ℕ
  climbs : Climbs os root depth up
  shallow : depth + height c ≤ 16

module _ {os : Objects} (rises : Rises 2 os) {root : ℕ} {rb : Block} {top : Node} (q : Rep os root rb top) where
  -- the rule, of a directory
  depth-kept : (r : ℕ) (b : Block) (c : Node) → is_dir b ≡ true → slots b ≡ slots_of c → Deep os root r c → keeps rule5 os root r b ≡ true
  depth-kept r b c k e d =
      keeps_tested os rises root rule5 r b (λ _. record {
        depth = d.depth;
        climbs = d.climbs;
        low = omega (arith, d.shallow);
        holder = holds-low d.depth b c k e d.shallow;
      })

  -- and of what is none
  no_depth : (r : ℕ) (b : Block) → is_dir b ≡ false → keeps rule5 os root r b ≡ true
  no_depth r b h = keeps_tested os rises root rule5 r b (λ e. absurd (false≢true (sym h ∙ e)))

  -- one step more
  deep_dir : (up n r : ℕ) (a b : Block) (c t : Node) → Stands up (dir n r a b c t) → Among os (dir n r a b c t)
      → Deep os root up (dir n r a b c t) → Deep os root r c
  deep_dir up n r a b c t s h k =
      let e = file-there os q.once n r a b t (of_dir os q.once n r a b c t h) in
      record {
        depth = suc k.depth;
        climbs = rw (e, s.1.parent) (s.1.is_dir, k.climbs);
        shallow = omega (arith, k.shallow);
      }

  -- the root
  deep_top : Deep os root root top
  deep_top = record { depth = 0; climbs = refl; shallow = omega (arith, q.low) }

  -- rule 5
  pub depths_kept : breaker_of rule5 os root ≡ none
  depths_kept =
      all_good os q.once (keeps rule5 os root) (Deep os root)
      (λ n a i h. no_depth n a (name_no_dir a h.is_name))
      (λ r b i h. no_depth r b (file_no_dir b h.is_file))
      (λ up t k. record { depth = k.depth; climbs = k.climbs; shallow = k.shallow })
      (λ up n o a b t k. record { depth = k.depth; climbs = k.climbs; shallow = omega (arith, k.shallow) })
      (λ up n o a b c t k. record { depth = k.depth; climbs = k.climbs; shallow = omega (arith, k.shallow) })
      (λ up n r a b c t i s h k.
      let d = deep_dir up n r a b c t s h k in
      (depth-kept r b c s.1.is_dir s.1.slots d, d))
      root rb top q (depth-kept root rb top q.top.is_dir q.top.slots deep_top) deep_top

-- What stands at the end of components: its blocks are among the tree's, they say what they should, and the tree is as high as the way to it.
use Prim.Native.Nat.{◌+◌, ◌≤◌, suc, ℕ}
use mathlib.Core.Bool.{Bool, false, true}
use mathlib.Core.List.{List, [], ◌++◌, ◌∷◌}
use mathlib.Core.Path.{◌≡◌, refl}
use native.Mathlib.Omega.{arith}
use lib.ListN.{length}
use Rattle.storage.specs.Bytes.{same}
use Rattle.alloc.specs.Block.{Block}
use Rattle.history.proofs.Nodes.{DirNode, FileNode, Node, Sought, Stands, a_dir, a_file, at_file, barred, child_at, dir, empty, end, file, height, nowhere, seek, sum_of}
use Rattle.history.proofs.Sums.{Item}

-- what holds of both choices
pub either {ℓ} : {A : Type 0} (P : A → Type ℓ) (q : Bool) (x y : A) → P x → P y → P (elim q [ true ↦ x | false ↦ y ])
either P true x y h k = h
either P false x y h k = k

-- ---- its blocks

abbrev pub weight : (Item → ℕ) → Sought → ℕ
weight f nowhere = 0
weight f barred = 0
weight f (a_file r b) = f (r, b)
weight f (a_dir r b c) = f (r, b) + sum_of f c

weight_file : (f : Item → ℕ) (ws : List (List ℕ)) (r : ℕ) (b : Block) → weight f (at_file ws r b) ≤ f (r, b)
weight_file f [] r b = omega arith
weight_file f (w ∷ ws) r b = omega arith

weight_child : (f : Item → ℕ) (w : List ℕ) (ws : List (List ℕ)) → ((r : ℕ) (b : Block) (c : Node) → weight f (seek ws r b c) ≤ f (r, b) + sum_of f c)
    → (c : Node) → weight f (child_at w (at_file ws) (seek ws) c) ≤ sum_of f c
weight_child f w ws ih end = omega arith
weight_child f w ws ih (empty t) = weight_child f w ws ih t
weight_child f w ws ih (file n r a b t) =
    either (λ (x : Sought). weight f x ≤ f (n, a) + f (r, b) + sum_of f t) (same a.body w) _ _
    (omega (arith, weight_file f ws r b)) (omega (arith, weight_child f w ws ih t))
weight_child f w ws ih (dir n r a b c t) =
    either (λ (x : Sought). weight f x ≤ f (n, a) + f (r, b) + (sum_of f c + sum_of f t)) (same a.body w) _ _
    (omega (arith, ih r b c)) (omega (arith, weight_child f w ws ih t))

-- they count in the sums
pub weight_seek : (f : Item → ℕ) (ws : List (List ℕ)) (r : ℕ) (b : Block) (c : Node) → weight f (seek ws r b c) ≤ f (r, b) + sum_of f c
weight_seek f [] r b c = omega arith
weight_seek f (w ∷ ws) r b c = omega (arith, weight_child f w ws (weight_seek f ws) c)

-- ---- what they say, m components below a row of height h

abbrev pub Seen : ℕ → ℕ → Sought → Type 0
Seen m h nowhere = Unit {0}
Seen m h barred = Unit {0}
Seen m h (a_file r b) = FileNode r b
Seen m h (a_dir r b c) = ((up : ℕ) × DirNode r up b c) × Stands r c × (m + height c ≤ h)

seen_file : (m h : ℕ) (ws : List (List ℕ)) (r : ℕ) (b : Block) → FileNode r b → Seen m h (at_file ws r b)
seen_file m h [] r b s = s
seen_file m h (w ∷ ws) r b s = tt

seen_more : (m h k l : ℕ) → k + h ≤ m + l → (x : Sought) → Seen m h x → Seen k l x
seen_more m h k l e nowhere s = tt
seen_more m h k l e barred s = tt
seen_more m h k l e (a_file r b) s = s
seen_more m h k l e (a_dir r b c) s = (s.0, s.1, omega (arith, s.2))

seen_child : (w : List ℕ) (ws : List (List ℕ))
    → ((r up : ℕ) (b : Block) (c : Node) → DirNode r up b c → Stands r c → Seen (length ws) (height c) (seek ws r b c))
    → (up : ℕ) (c : Node) → Stands up c → Seen (suc (length ws)) (height c) (child_at w (at_file ws) (seek ws) c)
seen_child w ws ih up end s = tt
seen_child w ws ih up (empty t) s = seen_child w ws ih up t s
seen_child w ws ih up (file n r a b t) s =
    either (Seen (suc (length ws)) (height (file n r a b t))) (same a.body w) _ _ (seen_file (suc (length ws)) (height (file n r a b t)) ws r b s.1)
    (seen_more (suc (length ws)) (height t) (suc (length ws)) (height (file n r a b t)) (omega arith) (child_at w (at_file ws) (seek ws) t) (seen_child w ws ih up t s.3))
seen_child w ws ih up (dir n r a b c t) s =
    either (Seen (suc (length ws)) (height (dir n r a b c t))) (same a.body w) _ _
    (seen_more (length ws) (height c) (suc (length ws)) (height (dir n r a b c t)) (omega arith) (seek ws r b c) (ih r up b c s.1 s.3))
    (seen_more (suc (length ws)) (height t) (suc (length ws)) (height (dir n r a b c t)) (omega arith) (child_at w (at_file ws) (seek ws) t) (seen_child w ws ih up t s.4))

-- what is sought is seen so
pub seen_seek : (ws : List (List ℕ)) (r up : ℕ) (b : Block) (c : Node) → DirNode r up b c → Stands r c → Seen (length ws) (height c) (seek ws r b c)
seen_seek [] r up b c d s = ((up, d), s, omega arith)
seen_seek (w ∷ ws) r up b c d s = seen_child w ws (seen_seek ws) r c s

-- ---- the directory above a file

-- the directory at the end of components holds the file o by the name v
pub record Holder (x : Sought) (v : List ℕ) (o : ℕ) (y : Block) : Type 0 where
  pub ref : ℕ
  pub block : Block
  pub row : Node
  pub found : x ≡ a_dir ref block row
  pub there : child_at v (at_file []) (seek []) row ≡ a_file o y

barred_last : (ws : List (List ℕ)) (v : List ℕ) (r : ℕ) (b : Block) → at_file (ws ++ (v ∷ [])) r b ≡ barred
barred_last [] v r b = refl
barred_last (w ∷ ws) v r b = refl

module _ (v : List ℕ) (o : ℕ) (y : Block) where
  holder-child : (w : List ℕ) (ws : List (List ℕ))
      → ((r : ℕ) (b : Block) (c : Node) → seek (ws ++ (v ∷ [])) r b c ≡ a_file o y → Holder (seek ws r b c) v o y)
      → (c : Node) → child_at w (at_file (ws ++ (v ∷ []))) (seek (ws ++ (v ∷ []))) c ≡ a_file o y → Holder (child_at w (at_file ws) (seek ws) c) v o y
  holder-child w ws ih end e = let z : ◌≡◌ {A = ℕ} 0 1 = cc in absurd (omega arith)
  holder-child w ws ih (empty t) e = holder-child w ws ih t e
  holder-child w ws ih (file n r a b t) e = go (same a.body w) e (holder-child w ws ih t)
    where
      go : (q : Bool) → ◌≡◌ {A = Sought} (elim q [ true ↦ at_file (ws ++ (v ∷ [])) r b | false ↦ child_at w (at_file (ws ++ (v ∷ []))) (seek (ws ++ (v ∷ []))) t ]) (a_file o y)
          → (child_at w (at_file (ws ++ (v ∷ []))) (seek (ws ++ (v ∷ []))) t ≡ a_file o y → Holder (child_at w (at_file ws) (seek ws) t) v o y)
          → Holder (elim q [ true ↦ at_file ws r b | false ↦ child_at w (at_file ws) (seek ws) t ]) v o y
      go true e' k = let x = barred_last ws v r b in let z : ◌≡◌ {A = ℕ} 0 1 = cc in absurd (omega arith)
      go false e' k = k e'
  holder-child w ws ih (dir n r a b c t) e = go (same a.body w) e (holder-child w ws ih t)
    where
      go : (q : Bool) → ◌≡◌ {A = Sought} (elim q [ true ↦ seek (ws ++ (v ∷ [])) r b c | false ↦ child_at w (at_file (ws ++ (v ∷ []))) (seek (ws ++ (v ∷ []))) t ]) (a_file o y)
          → (child_at w (at_file (ws ++ (v ∷ []))) (seek (ws ++ (v ∷ []))) t ≡ a_file o y → Holder (child_at w (at_file ws) (seek ws) t) v o y)
          → Holder (elim q [ true ↦ seek ws r b c | false ↦ child_at w (at_file ws) (seek ws) t ]) v o y
      go true e' k = ih r b c e'
      go false e' k = k e'

  -- where all components lead to a file, those before the last lead to its holder
  pub file-holder : (ws : List (List ℕ)) (r : ℕ) (b : Block) (c : Node) → seek (ws ++ (v ∷ [])) r b c ≡ a_file o y → Holder (seek ws r b c) v o y
  file-holder [] r b c e = record { ref = r; block = b; row = c; found = refl; there = e }
  file-holder (w ∷ ws) r b c e = holder-child w ws (file-holder ws) c e

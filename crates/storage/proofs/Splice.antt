-- Splices: where they lie in joined lists, and splices that touch, nest or lie apart.
use Prim.Native.Nat.{ℕ, ◌+◌, ◌-◌, ◌<◌, ◌≤◌}
use mathlib.Core.List.{List, [], ◌++◌, append_assoc, append-nil}
use mathlib.Core.Path.{◌≡◌, ap, sym, ◌∙◌}
use native.Mathlib.Omega.{arith}
use native.Mathlib.Nat.{add-zero}
use lib.ListN.{length, take, drop, get_or, length-append, length-take, length-drop, take-append-drop, get_or-append}
use lib.Seq.{
  take_at,
  drop_at,
  drop-length,
  drop-drop,
  take-append-le,
  drop-append-le,
  take-append-add,
  drop-append-add,
  length-take-le,
  get_or-take,
  get_or-drop,
  get_or-append-add,
  sets,
  sets-eq,
}
use Rattle.storage.specs.Bytes.{splice}

pub length-splice : (s x : List ℕ) (p : ℕ) → p + length x ≤ length s → length (splice s p x) ≡ length s
unfolding splice
length-splice s x p h = simp (length-append, length-drop, length-take) (omega arith)

-- nothing over s
pub splice_none : (s : List ℕ) (p : ℕ) → splice s p [] ≡ s
unfolding splice
splice_none s p = ap (λ (n : ℕ). take p s ++ drop n s) (add-zero p) ∙ take-append-drop p s

-- x over the whole of s
pub splice_whole : (s x : List ℕ) → length x ≡ length s → splice s 0 x ≡ x
unfolding splice
splice_whole s x e =
    let k : 0 + length x ≡ length s = omega arith in
    ap (λ (n : ℕ). x ++ drop n s) k ∙ ap (λ (t : List ℕ). x ++ t) (drop-length s) ∙ append-nil x

-- a run of stores
pub sets_splice : (x s : List ℕ) (p : ℕ) → p + length x ≤ length s → sets s p x ≡ splice s p x
unfolding splice
sets_splice x s p h = sets-eq x s p h ∙ append_assoc (take p s) x (drop (p + length x) s)

-- ---- in joined lists

-- x over b, which is as long
pub splice_at : (a b c x : List ℕ) (n : ℕ) → length a ≡ n → length x ≡ length b → splice (a ++ (b ++ c)) n x ≡ a ++ (x ++ c)
unfolding splice
splice_at a b c x n e f =
    let l : length (a ++ b) ≡ n + length x = length-append a b ∙ omega arith in
    let d : drop (n + length x) (a ++ (b ++ c)) ≡ c = ap (drop (n + length x)) (sym (append_assoc a b c)) ∙ drop_at (a ++ b) c (n + length x) l in
    rw (take_at a (b ++ c) n e, d)

pub splice_right : (a s x : List ℕ) (p n : ℕ) → length a + p ≡ n → splice (a ++ s) n x ≡ a ++ splice s p x
unfolding splice
splice_right a s x p n e =
    let k : n + length x ≡ length a + (p + length x) = omega arith in
    let d : drop (n + length x) (a ++ s) ≡ drop (p + length x) s = ap (λ (k : ℕ). drop k (a ++ s)) k ∙ drop-append-add a s (p + length x) in
    rw (d, ← e, take-append-add a s p, append_assoc)

pub splice-left : (s t x : List ℕ) (p : ℕ) → p + length x ≤ length s → splice (s ++ t) p x ≡ splice s p x ++ t
unfolding splice
splice-left s t x p h = rw (take-append-le p s t (omega arith), drop-append-le (p + length x) s t h) (simp append_assoc)

-- x at the front of a list that begins with a, which is as long
pub splice_front : (a s x y : List ℕ) → length x ≡ length a → splice (a ++ s) 0 (x ++ y) ≡ x ++ splice s 0 y
unfolding splice
splice_front a s x y e =
    let k : 0 + length (x ++ y) ≡ length a + (0 + length y) = rw length-append (omega arith) in
    ap (λ (n : ℕ). (x ++ y) ++ drop n (a ++ s)) k
    ∙ ap (λ (t : List ℕ). (x ++ y) ++ t) (drop-append-add a s (0 + length y))
    ∙ append_assoc x y (drop (0 + length y) s)

-- ---- two splices

-- that touch
pub splice-append : (s x y : List ℕ) (p : ℕ) → p + length x ≤ length s → splice s p (x ++ y) ≡ splice (splice s p x) (p + length x) y
unfolding splice
splice-append s x y p h =
    let l : length (take p s ++ x) + 0 ≡ p + length x =
    add-zero _ ∙ length-append (take p s) x ∙ ap (λ (k : ℕ). k + length x) (length-take-le p s (omega arith)) in
    let d : List ℕ = drop (p + length x) s in
    let m : p + length (x ++ y) ≡ p + length x + (0 + length y) = rw length-append (omega arith) in
    let k : drop (p + length (x ++ y)) s ≡ drop (0 + length y) d =
    ap (λ (k : ℕ). drop k s) m ∙ sym (drop-drop (0 + length y) (p + length x) s) in
    let g : take p s ++ ((x ++ y) ++ drop (0 + length y) d) ≡ (take p s ++ x) ++ splice d 0 y = simp append_assoc in
    ap (λ (t : List ℕ). take p s ++ ((x ++ y) ++ t)) k
    ∙ g
    ∙ sym (splice_right (take p s ++ x) d y 0 (p + length x) l)
    ∙ ap (λ (t : List ℕ). splice t (p + length x) y) (append_assoc (take p s) x d)

-- ---- what stands where

-- within the splice
pub splice-inside : (s x : List ℕ) (p i : ℕ) → p + length x ≤ length s → i < length x → get_or (splice s p x) (p + i) 0 ≡ get_or x i 0
unfolding splice
splice-inside s x p i h k =
    let l : length (take p s) ≡ p = length-take-le p s (omega arith) in
    ap (λ (n : ℕ). get_or (take p s ++ (x ++ drop (p + length x) s)) (n + i) 0) (sym l)
    ∙ get_or-append-add (take p s) (x ++ drop (p + length x) s) i 0
    ∙ get_or-append x (drop (p + length x) s) 0 i k

-- before it
pub splice-before : (s x : List ℕ) (p i : ℕ) → p + length x ≤ length s → i < p → get_or (splice s p x) i 0 ≡ get_or s i 0
unfolding splice
splice-before s x p i h k =
    get_or-append (take p s) (x ++ drop (p + length x) s) 0 i (omega (arith, length-take-le p s (omega arith)))
    ∙ get_or-take p s i 0 k

-- and behind it
pub splice-behind : (s x : List ℕ) (p i : ℕ) → p + length x ≤ length s → p + length x ≤ i → get_or (splice s p x) i 0 ≡ get_or s i 0
unfolding splice
splice-behind s x p i h k =
    let n : ℕ = p + length x in
    let l : length (take p s ++ x) ≡ n = length-append (take p s) x ∙ ap (λ (m : ℕ). m + length x) (length-take-le p s (omega arith)) in
    let e : length (take p s ++ x) + (i - n) ≡ i = omega arith in
    let f : n + (i - n) ≡ i = omega arith in
    ap (λ (t : List ℕ). get_or t i 0) (sym (append_assoc (take p s) x (drop n s)))
    ∙ ap (λ (m : ℕ). get_or ((take p s ++ x) ++ drop n s) m 0) (sym e)
    ∙ get_or-append-add (take p s ++ x) (drop n s) (i - n) 0
    ∙ get_or-drop n s (i - n) 0
    ∙ ap (λ (m : ℕ). get_or s m 0) f

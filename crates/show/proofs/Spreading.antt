-- Words stored one behind the other.
use Prim.Native.Nat.{ℕ, ◌+◌, ◌*◌, ◌/◌, ◌<◌, ◌≤◌}
use mathlib.Core.List.{List, [], ◌∷◌, ◌++◌, append_assoc, append-nil}
use mathlib.Core.Path.{◌≡◌, refl, ap, sym, ◌∙◌}
use native.Mathlib.Omega.{arith}
use native.Mathlib.Numerals.{add-one}
use lib.ListN.{length, take, get_or, length-append}
use lib.Seq.{take-suc, take_all, length-take-le}
use Rattle.std.specs.List.{enumerate_from}
use Rattle.std.specs.Iterator.Adapters.{enumerate_source, enumerate_count, enumerate_steps, take_source, take_count, take_steps}
use Rattle.std.specs.Slice.Iter.{iter_rest, iter_steps}
use Rattle.std.specs.declared.iter.Enumerate.{Enumerate}
use Rattle.std.specs.declared.iter.Take.{Take}
use Rattle.std.proofs.Common.{Iter}
use Rattle.std.proofs.lemmas.Iterator.{YieldsList, YieldsList-from_slice, YieldsList-from_take}
use Rattle.std.proofs.lemmas.Iterator.Consumers.{YieldsList-from_enumerate}
use Rattle.std.proofs.lemmas.List.{length-take}
use Rattle.std.proofs.lemmas.List.FromFn.{length-enumerate_from, get_or-enumerate_from}
use Rattle.storage.specs.Bytes.{be64, splice}
use Rattle.storage.proofs.Numbers.{length-be64}
use Rattle.storage.proofs.Splice.{splice-append, splice_none}
use Rattle.show.specs.Words.{bytes_of, spread_over}

length-bytes : (ws : List ℕ) → length (bytes_of ws) ≡ 8 * length ws
unfolding bytes_of
length-bytes [] = refl
length-bytes (w ∷ ws) = length-append (be64 w) (bytes_of ws) ∙ omega (arith, length-be64 w, length-bytes ws)

bytes-append : (xs : List ℕ) (w : ℕ) → bytes_of (xs ++ (w ∷ [])) ≡ bytes_of xs ++ be64 w
unfolding bytes_of
bytes-append [] w = append-nil (be64 w)
bytes-append (x ∷ xs) w = ap (λ (l : List ℕ). be64 x ++ l) (bytes-append xs w) ∙ sym (append_assoc (be64 x) (bytes_of xs) (be64 w))

-- what `ws.iter().take(n).enumerate()` gives
pub numbered : (s : Enumerate (Take (Iter ℕ))) (ws : List ℕ) (n : ℕ) → iter_rest (take_source (enumerate_source s)) ≡ ws → take_count (enumerate_source s) ≡ n → enumerate_count s ≡ 0
    → YieldsList {B = ℕ × ℕ} (enumerate_steps (take_steps iter_steps)) (λ p. (p.0, p.1.now)) s (enumerate_from 0 (take n ws))
numbered s ws n a b e = YieldsList-from_enumerate (YieldsList-from_take n (YieldsList-from_slice ws a) b) e

-- i words of ws, for which s has room, are stored over s, which gives t
pub record Spreading (ws s t : List ℕ) (i : ℕ) : Type 0 where
  pub few : i ≤ length ws
  pub room : 8 * length ws ≤ length s
  pub is : t ≡ splice s 0 (bytes_of (take i ws))

pub spreading_start : (ws s : List ℕ) → Spreading (take (length s / 8) ws) s s 0
unfolding bytes_of
spreading_start ws s = record { few = omega arith; room = omega (arith, length-take (length s / 8) ws); is = sym (splice_none s 0) }

module _ {ws s t : List ℕ} {i : ℕ} (w : Spreading ws s t i) where
  stored : length (bytes_of (take i ws)) ≡ 8 * i
  stored = length-bytes (take i ws) ∙ ap (λ (n : ℕ). 8 * n) (length-take-le i ws w.few)

  -- at and x are the next of the numbered words
  pub spreading_on : {u : List ℕ} {at x : ℕ}
      → (i < length (enumerate_from 0 ws)) × ◌≡◌ {A = ℕ × ℕ} (at, x) (get_or (enumerate_from 0 ws) i (at, x))
      → u ≡ splice t (8 * at) (be64 x) → Spreading ws s u (i + 1)
  spreading_on {u} {at} {x} (n, a) e =
      let h : i < length ws = omega (arith, n, length-enumerate_from 0 ws) in
      let b = a ∙ get_or-enumerate_from 0 ws i (at, x) h in
      let taken : take i ws ++ (x ∷ []) ≡ take (i + 1) ws =
      ap (λ (y : ℕ). take i ws ++ (y ∷ [])) (ap (λ (p : ℕ × ℕ). p.1) b) ∙ sym (take-suc ws i x h) ∙ ap (λ (k : ℕ). take k ws) (sym (add-one i)) in
      record {
        few = omega arith;
        room = w.room;
        is =
            e
            ∙ ap (λ (k : ℕ). splice t k (be64 x)) (omega (arith, ap (λ (p : ℕ × ℕ). p.0) b, stored))
            ∙ ap (λ (l : List ℕ). splice l (0 + length (bytes_of (take i ws))) (be64 x)) w.is
            ∙ sym (splice-append s (bytes_of (take i ws)) (be64 x) 0 (omega (arith, stored, w.few, w.room)))
            ∙ ap (splice s 0) (sym (bytes-append (take i ws) x) ∙ ap bytes_of taken);
      }

pub spreading_end : (ws : List ℕ) {s t : List ℕ} {i : ℕ} → Spreading (take (length s / 8) ws) s t i → i ≡ length (enumerate_from 0 (take (length s / 8) ws)) → t ≡ spread_over ws s
unfolding spread_over
spreading_end ws {s} w h = w.is ∙ ap (λ (x : List ℕ). splice s 0 (bytes_of x)) (take_all _ (take (length s / 8) ws) (omega (arith, h, length-enumerate_from 0 (take (length s / 8) ws))))

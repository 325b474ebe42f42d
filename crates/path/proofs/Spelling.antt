-- The steps of the pass over the bytes of a name.
use Prim.Native.Nat.{ℕ, zero, suc, ◌+◌, ◌-◌, ◌≤◌, ◌<◌}
use mathlib.Core.List.{List, [], ◌∷◌}
use mathlib.Core.Path.{◌≡◌, refl, ap, sym, ◌∙◌}
use mathlib.Core.Bool.{Bool, true, false, ◌&&◌, ◌||◌, cond, not, and-false}
use native.Mathlib.Omega.{arith}
use native.Mathlib.Numerals.{sub-one}
use borrow.Author.Tests.{ne_eqb, le-leb, lt-leb, ltb-false}
use lib.Dec.{eqb, ltb}
use lib.ListN.{drop}
use Rattle.std.specs.Prelude.{Option, Some, None}
use Rattle.std.specs.Option.{MatchOption, unwrap_or}
use Rattle.std.specs.List.{position_or_len}
use Rattle.path.specs.Walk.{Walk}
use Rattle.path.specs.declared.characters.Awaited.{Awaited}
use Rattle.path.specs.Name.{within, forbidden, allowed, followers, lowest, highest, awaited}
use Rattle.path.specs.Spelling.{spelt, passed, Refuses, Goes}
use Rattle.path.proofs.Booleans.{or_false}
use Rattle.path.proofs.FirstBytes.{takes_0, lowest-high}

-- a byte above 7F is none of the forbidden
unforbidden : (b : ℕ) → 0x80 ≤ b → forbidden b ≡ false
unforbidden b h = rw (ne_eqb b 0x00 (omega arith), ne_eqb b 0x2f (omega arith), ne_eqb b 0x5c (omega arith))

allowed_cons : (q : Bool) (b : ℕ) → forbidden b ≡ q → (t : List ℕ) → allowed (b ∷ t) ≡ (not q && allowed t)
unfolding allowed
allowed_cons q b e t = ap (λ (r : Bool). not r && allowed t) e

-- where no follower is to come, it is the same in which range
pub whole : (low high low' high' : ℕ) (t : List ℕ) → awaited 0 low high t ≡ awaited 0 low' high' t
unfolding awaited
whole low high low' high' [] = refl
whole low high low' high' (b ∷ t) = refl

-- a byte where a character begins
pub awaited_begin : (b k low high : ℕ) → k ≡ 0 → (t : List ℕ) → awaited k low high (b ∷ t) ≡ awaited (followers b) (lowest b) (highest b) t
unfolding awaited
awaited_begin b k low high e t = ap (λ (n : ℕ). awaited n low high (b ∷ t)) e

-- a byte where a follower is to come
awaited-follow : (b k low high : ℕ) → 0 < k → (t : List ℕ) → awaited k low high (b ∷ t) ≡ (within low high b && awaited (k - 1) 0x80 0xbf t)
unfolding awaited
awaited-follow b zero low high h t = absurd (omega arith)
awaited-follow b (suc k) low high h t = rw sub-one

module _ {b : ℕ} where
  -- where a character begins
  pub begins_several : {k low high : ℕ} → 0x80 ≤ b → k ≡ followers b → low ≡ lowest b → high ≡ highest b → Goes b 0 0x80 0xbf k low high
  begins_several h f g i = record {
    high-enough = omega (arith, lowest-high b);
    same = λ t. rw (allowed_cons false b (unforbidden b h) t, awaited_begin b 0 0x80 0xbf refl t, f, g, i);
  }

  pub begins_alone : b < 0x80 → forbidden b ≡ false → Goes b 0 0x80 0xbf 0 0x80 0xbf
  begins_alone h f = record {
    high-enough = omega arith;
    same = λ t. rw (allowed_cons false b f t, awaited_begin b 0 0x80 0xbf refl t, takes_0 b h, whole (lowest b) (highest b) 0x80 0xbf t);
  }

  pub begins_forbidden : forbidden b ≡ true → Refuses b 0 0x80 0xbf
  begins_forbidden f = record { never = λ t. rw (allowed_cons true b f t) }

-- where no follower is to come, it is the same in which range
pub begins : (b k low high : ℕ) → k ≡ 0 → (r : Option Awaited) → MatchOption r (Refuses b 0 0x80 0xbf) (λ n. Goes b 0 0x80 0xbf n.left n.low n.high)
    → MatchOption r (Refuses b k low high) (λ n. Goes b k low high n.left n.low n.high)
begins b k low high e None h = record { never = λ t. rw (e, whole low high 0x80 0xbf (b ∷ t)) (h.never t) }
begins b k low high e (Some n) h = record { high-enough = h.high-enough; same = λ t. rw (e, whole low high 0x80 0xbf (b ∷ t)) (h.same t) }

-- where one is to come
module _ {b k low high : ℕ} (s : 0 < k) where
  pub follows_low : b < low → Refuses b k low high
  follows_low h = record { never = λ t. rw (awaited-follow b k low high s t, lt-leb low b h) (and-false (allowed (b ∷ t))) }

  pub follows_high : low ≤ b → high < b → Refuses b k low high
  follows_high l h = record { never = λ t. rw (awaited-follow b k low high s t, le-leb low b l, lt-leb b high h) (and-false (allowed (b ∷ t))) }

  pub follows : 0x80 ≤ low → low ≤ b → b ≤ high → Goes b k low high (k - 1) 0x80 0xbf
  follows g l h = record {
    high-enough = omega arith;
    same = λ t. rw (allowed_cons false b (unforbidden b (omega arith)) t, awaited-follow b k low high s t, le-leb low b l, le-leb b high h);
  }

-- where no byte is left
pub passed-end : (k low high : ℕ) → eqb k 0 ≡ passed k low high []
unfolding allowed awaited
passed-end zero low high = refl
passed-end (suc k) low high = ne_eqb (suc k) 0 (λ e. omega arith)

-- ---- the bytes in front that stand alone

-- the byte does not stand alone
abbrev pub other : ℕ → Bool
other b = ltb 0x7f b || forbidden b

-- the first byte that does not, and what position answers of it
pub plain_walk : (s : List ℕ) → Walk s (spelt s) spelt (position_or_len other s)
plain_walk [] = record { inside = omega arith; same = refl }
plain_walk (b ∷ s) = go (other b) refl (plain_walk s)
  where
    go : (q : Bool) → other b ≡ q → Walk s (spelt s) spelt (position_or_len other s)
        → Walk (b ∷ s) (spelt (b ∷ s)) spelt (cond (not q) (1 + position_or_len other s) 0)
    go true e w = record { inside = omega arith; same = refl }
    go false e w =
        let parts : (ltb 0x7f b ≡ false) × (forbidden b ≡ false) = or_false _ _ e in
        let h : b ≤ 0x7f = ltb-false 0x7f b parts.0 in
        let n : 1 + position_or_len other s ≡ suc (position_or_len other s) = omega arith in
        record {
          inside = omega (arith, w.inside);
          same = (begins_alone (omega arith) parts.1).same s ∙ w.same ∙ ap (λ (k : ℕ). spelt (drop k (b ∷ s))) (sym n);
        }

pub position-or : (m n : ℕ) → n ≤ m → unwrap_or (cond (ltb n m) (Some n) None) m ≡ n
position-or m n h = go (ltb n m) refl
  where
    go : (q : Bool) → ltb n m ≡ q → unwrap_or (cond q (Some n) None) m ≡ n
    go true e = refl
    go false e = let k : m ≤ n = ltb-false n m e in omega arith

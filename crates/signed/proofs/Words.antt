-- Halfwords and words read as signed numbers, and back. No contract cites this file. Assumes nothing.
-- Low is below the sign bit's value, high is from there on.
use mathlib.Core.Path.{◌≡◌, sym, ap, ◌∙◌}
use Prim.Native.Nat.{ℕ, ◌+◌, ◌-◌, ◌%◌, ◌^◌, ◌≤◌, ◌<◌}
use native.Mathlib.Nat.{mod-eq_of_lt}
use native.Mathlib.Omega.{arith}
use lib.IntN.{ℤ, pos, sub_ℕ}
use borrow.Author.Tests.{lt-ltb, le-ltb}
use Rattle.signed.specs.Signed.{signed16, signed32, wrapped, word32}
use Rattle.signed.proofs.Difference.{View, up, down, view, subℕ-view, subℕ-cross}

pub signed16_low : (h : ℕ) → h < 2 ^ 15 → signed16 h ≡ pos h
unfolding signed16
signed16_low h p = rw (lt-ltb h (2 ^ 15) p)

pub signed16_high : (h : ℕ) → 2 ^ 15 ≤ h → signed16 h ≡ sub_ℕ h (2 ^ 16)
unfolding signed16
signed16_high h p = rw (le-ltb h (2 ^ 15) p)

-- A halfword plus 2^15, without the carry, is its number plus 2^15.
pub signed16_lifted : (h : ℕ) → h < 2 ^ 16 → signed16 h ≡ sub_ℕ ((h + 2 ^ 15) % 2 ^ 16) (2 ^ 15)
signed16_lifted h h< = go (view h (2 ^ 15))
  where
    go : {z : ℤ} → View h (2 ^ 15) z → signed16 h ≡ sub_ℕ ((h + 2 ^ 15) % 2 ^ 16) (2 ^ 15)
    go (up k p) =
        signed16_high h (omega arith) ∙ subℕ-cross h (2 ^ 16) ((h + 2 ^ 15) % 2 ^ 16) (2 ^ 15) (omega arith)
    go (down k p) =
        signed16_low h (omega arith) ∙ sym (subℕ-view ((h + 2 ^ 15) % 2 ^ 16) (2 ^ 15) (up h (omega arith)))

pub signed32_low : (w : ℕ) → w < 2 ^ 31 → signed32 w ≡ pos w
unfolding signed32
signed32_low w p = rw (lt-ltb w (2 ^ 31) p)

pub signed32_high : (w : ℕ) → 2 ^ 31 ≤ w → signed32 w ≡ sub_ℕ w (2 ^ 32)
unfolding signed32
signed32_high w p = rw (le-ltb w (2 ^ 31) p)

module _ (w r bias : ℕ) where
  pub signed32-subℕ-low : w < 2 ^ 31 → r ≡ w + bias → signed32 w ≡ sub_ℕ r bias
  signed32-subℕ-low p e = signed32_low w p ∙ sym (subℕ-view r bias (up w (omega arith)))

  pub signed32-subℕ-high : 2 ^ 31 ≤ w → r + 2 ^ 32 ≡ w + bias → signed32 w ≡ sub_ℕ r bias
  signed32-subℕ-high p e = signed32_high w p ∙ subℕ-cross w (2 ^ 32) r bias (omega arith)

pub word32-signed32 : (w : ℕ) → w < 2 ^ 32 → word32 (signed32 w) ≡ w
unfolding word32 wrapped
word32-signed32 w w< = go (view w (2 ^ 31))
  where
    go : {z : ℤ} → View w (2 ^ 31) z → wrapped (signed32 w) (2 ^ 32) ≡ w
    go (up k p) =
        rw (signed32_high w (omega arith), subℕ-view w (2 ^ 32) (down (2 ^ 32 - 1 - w) (omega arith))) (omega arith)
    go (down k p) = rw (signed32_low w (omega arith)) (mod-eq_of_lt w<)

-- A word is the word of the number that it reads as.
pub word32_is : (w : ℕ) (z : ℤ) → w < 2 ^ 32 → signed32 w ≡ z → w ≡ word32 z
word32_is w z w< e = sym (word32-signed32 w w<) ∙ ap word32 e

-- The word that is left of a lifted reference number, by a difference that wraps.
pub signed32_dropped : (r : ℕ) → r < 2 ^ 29 → signed32 ((r + (2 ^ 32 - 2 ^ 28)) % 2 ^ 32) ≡ sub_ℕ r (2 ^ 28)
signed32_dropped r r< = go (view r (2 ^ 28))
  where
    go : {z : ℤ} → View r (2 ^ 28) z → signed32 ((r + (2 ^ 32 - 2 ^ 28)) % 2 ^ 32) ≡ sub_ℕ r (2 ^ 28)
    go (up k p) = signed32-subℕ-low _ r (2 ^ 28) (omega arith) (omega arith)
    go (down k p) = signed32-subℕ-high _ r (2 ^ 28) (omega arith) (omega arith)

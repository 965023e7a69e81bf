-- A number made natural by a bias, and back. No contract cites this file. Assumes nothing.
use mathlib.Core.Path.{◌≡◌, refl, sym}
use Prim.Native.Nat.{ℕ, suc, ◌+◌, ◌-◌, ◌<◌}
use native.Mathlib.Omega.{arith}
use lib.IntN.{ℤ, pos, negsuc, sub_ℕ, ◌+ℤ◌}
use lib.Signed.{mag}
use Rattle.signed.proofs.Difference.{up, down, subℕ-view}

-- z plus a bias, where that is not below zero.
unfoldable pub raised : ℤ → ℕ → ℕ
raised (pos k) bias = k + bias
raised (negsuc k) bias = bias - suc k

module _ (bias : ℕ) where
  pub add_raised : (z : ℤ) → mag z < bias → z +ℤ pos bias ≡ pos (raised z bias)
  unfolding raised
  add_raised (pos k) small = refl
  add_raised (negsuc k) small = subℕ-view bias (suc k) (up (bias - suc k) (omega arith))

  pub raised_bound : (z : ℤ) → mag z < bias → raised z bias < bias + bias
  unfolding raised
  raised_bound (pos k) small = omega arith
  raised_bound (negsuc k) small = omega arith

  -- Lowered again it is z.
  pub subℕ-raised : (z : ℤ) → mag z < bias → z ≡ sub_ℕ (raised z bias) bias
  unfolding raised
  subℕ-raised (pos k) small = sym (subℕ-view (k + bias) bias (up k (omega arith)))
  subℕ-raised (negsuc k) small = sym (subℕ-view (bias - suc k) bias (down k (omega arith)))

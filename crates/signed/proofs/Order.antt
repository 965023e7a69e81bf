-- The size of differences, by naturals. No contract cites this file. Assumes nothing.
use Prim.Native.Nat.{ℕ, ◌+◌, ◌≤◌, ◌<◌}
use native.Mathlib.Omega.{arith}
use lib.IntN.{ℤ, sub_ℕ}
use lib.Signed.{mag}
use Rattle.signed.proofs.Difference.{View, up, down, view}

-- The size of a difference, mag z being n for n and for -(n + 1).
pub mag-subℕ : (a b m : ℕ) → a < b + m → b ≤ a + m → mag (sub_ℕ a b) < m
mag-subℕ a b m p q = go (view a b)
  where
    go : {z : ℤ} → View a b z → mag z < m
    go (up k e) = omega arith
    go (down k e) = omega arith

-- Laws of weights: what a choice makes of bounds. No contract cites this file. Assumes nothing.
use Prim.Native.Nat.{ℕ, ◌-◌, ◌≤◌}
use mathlib.Core.Bool.{Bool, true, false, cond}
use native.Mathlib.Omega.{arith}

-- One of two weights is at most what both are.
pub cond_bound : (test : Bool) (a b : ℕ) {most : ℕ} → a ≤ most → b ≤ most → cond test a b ≤ most
cond_bound true a b a≤ b≤ = a≤
cond_bound false a b a≤ b≤ = b≤

-- The weights of a fade are at most 31.
pub fade_bound : {evy : ℕ} → evy ≤ 16 → (16 - evy ≤ 31) × (evy ≤ 31)
fade_bound evy≤ = (omega arith, omega arith)

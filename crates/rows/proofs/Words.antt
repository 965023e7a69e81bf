-- Laws of numbers in cells. No contract cites this file. Assumes nothing.
use mathlib.Core.Path.{◌≡◌}
use Prim.Native.Nat.{ℕ, ◌+◌, ◌*◌, ◌/◌, ◌%◌, ◌<◌}
use native.Mathlib.Omega.{arith}

pub low-join : (a b : ℕ) → a < 256 → (a + 256 * b) % 256 ≡ a
low-join a b fits = omega arith

pub high-join : (a b : ℕ) → a < 256 → (a + 256 * b) / 256 ≡ b
high-join a b fits = omega arith

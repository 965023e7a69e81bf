-- signed::lift_i32 meets its contract: a number in range less -2^28 is the natural that raised gives.
-- Assumes nothing.
use mathlib.Core.Path.{◌≡◌, ap, ◌∙◌}
use Prim.Native.Nat.{◌^◌, ◌<◌}
use native.Mathlib.Omega.{arith}
use lib.IntN.{ℤ, pos, ◌+ℤ◌}
use lib.Signed.{mag}
use mir.Syntax.{w32}
use mir.Val.{SFits, to_z, of_z}
use mir.Facts.{to_z-of_z}
use Rattle.signed.proofs.Bias.{raised, add_raised, raised_bound, subℕ-raised}
use Rattle.signed.proofs.Range.{mag-in_range}
use Rattle.signed.proofs.lift_i32.Goals as goal

small : (c : goal.Start) → mag c.args.z < 2 ^ 28
small c = mag-in_range c.args.z c.requires

bound : (c : goal.Start) → raised c.args.z (2 ^ 28) < 2 ^ 29
bound c = raised_bound (2 ^ 28) c.args.z (small c)

-- The difference, as the machine has it.
difference : (c : goal.Start) → to_z w32 (of_z w32 c.args.z) +ℤ pos (2 ^ 28) ≡ pos (raised c.args.z (2 ^ 28))
difference c =
    ap (λ (z : ℤ). z +ℤ pos (2 ^ 28)) (to_z-of_z c.ranges.z) ∙ add_raised (2 ^ 28) c.args.z (small c)

fits : (c : goal.Start) → SFits w32 (to_z w32 (of_z w32 c.args.z) +ℤ pos (2 ^ 28))
fits c = rw (difference c) (record { sfits = omega (arith, bound c) })

pub overflow_sub-result : goal.overflow_sub-result
overflow_sub-result c = fits c

pub overflow_cast-result : goal.overflow_cast-result
overflow_cast-result c = rw (to_z-of_z (fits c), difference c) (tt, record { fits = omega (arith, bound c) })

pub returns : goal.returns
returns c = rw (to_z-of_z (fits c), difference c) (subℕ-raised (2 ^ 28) c.args.z (small c), bound c)

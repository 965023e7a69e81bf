-- Laws of windows. No contract cites this file. Assumes nothing.
use Prim.Native.Nat.{ℕ, ◌/◌, ◌≤◌}
use native.Mathlib.Omega.{arith}
use mathlib.Core.Path.{◌≡◌, refl, ap₂}
use mathlib.Core.Bool.{Bool, true, false, ◌&&◌}
use lib.Dec.{leb, ltb}
use borrow.Author.Tests.{ltb-true, leb-true}
use Rattle.bits.specs.Bits.{bits}
use Rattle.regs_window.specs.Windows.{far_edge, inside}

-- A conjunction fails where its parts exclude each other.
and_apart : (a b : Bool) → (a ≡ true → b ≡ true → ⊥) → (a && b) ≡ false
and_apart true true h = absurd (h refl refl)
and_apart true false h = refl
and_apart false b h = refl

-- Where the far edge is not past the near one, nothing is inside.
pub inside_none : (screen near far at : ℕ) → far_edge screen near far ≤ near → inside screen near far at ≡ false
inside_none screen near far at none =
    and_apart (leb near at) (ltb at (far_edge screen near far))
    (λ after before. omega (arith, leb-true near at after, ltb-true at (far_edge screen near far) before))

-- What a window holds, by its two edges as they are read.
pub inside_is : (screen near far at : ℕ) {n f : ℕ} → n ≡ near → f ≡ far_edge screen near far
    → (leb n at && ltb at f) ≡ inside screen near far at
inside_is screen near far at n-is f-is = ap₂ (λ n f. leb n at && ltb at f) n-is f-is

-- Flags of the high byte, by the word as it is read.
pub high_flags : {flags word read : ℕ} → flags ≡ bits 5 0 (read / 0x100) → read ≡ word → flags ≡ bits 13 8 word
high_flags flags_are read_is = omega arith

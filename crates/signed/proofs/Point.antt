-- Points of affine backgrounds and sprites, on lifted numbers. No contract cites this file. Assumes nothing.
use mathlib.Core.Path.{◌≡◌, refl, ap, ap₂, ◌∙◌}
use Prim.Native.Nat.{ℕ, zero, suc, ◌+◌, ◌-◌, ◌*◌, ◌/◌, ◌%◌, ◌^◌, ◌<◌}
use native.Mathlib.Omega.{arith}
use lib.IntN.{ℤ, pos, sub_ℕ, ◌+ℤ◌, ◌*ℤ◌}
use Rattle.signed.specs.Signed.{down256}
use Rattle.signed.proofs.Difference.{add-subℕ, mul-pos-subℕ, mul-subℕ}
use Rattle.signed.proofs.Remainder.{down256_cross}

-- The point of a background at a column, by any bias. The premises are what lift_i32 and lift_half ensure, and how n is computed.
pub point_cross : {z p : ℤ} (a b column n bias : ℕ) →
    z ≡ sub_ℕ a (2 ^ 28) → p ≡ sub_ℕ b (2 ^ 15) →
    n + (2 ^ 28 + column * 2 ^ 15) ≡ a + column * b + 256 * bias →
    down256 (z +ℤ pos column *ℤ p) ≡ sub_ℕ (n / 256) bias
point_cross a b column n bias z-is p-is e =
    ap₂ (λ (y x : ℤ). down256 (y +ℤ pos column *ℤ x)) z-is p-is
    ∙ ap (λ (x : ℤ). down256 (sub_ℕ a (2 ^ 28) +ℤ x)) (mul-pos-subℕ column b (2 ^ 15))
    ∙ ap down256 (add-subℕ a (2 ^ 28) (column * b) (column * 2 ^ 15))
    ∙ down256_cross (a + column * b) (2 ^ 28 + column * 2 ^ 15) n bias e

-- By the bias 0x1e0000, 128 times 15360: more than a point can be below zero, and a multiple of every side.
pub point_is : {z p : ℤ} (a b column : ℕ) →
    z ≡ sub_ℕ a (2 ^ 28) → p ≡ sub_ℕ b (2 ^ 15) → column < 240 →
    down256 (z +ℤ pos column *ℤ p) ≡ sub_ℕ ((a + 0xe000000 + column * b - column * 2 ^ 15) / 256) 0x1e0000
point_is a b column z-is p-is h =
    point_cross a b column (a + 0xe000000 + column * b - column * 2 ^ 15) 0x1e0000 z-is p-is (omega arith)

-- The sides of affine backgrounds divide the bias, as wrapped-subℕ asks; those of bitmaps, 240, 160 and 128, do so by refl.
pub point_sides : (size : ℕ) → size < 4 → (0 < 128 * 2 ^ size) × (0x1e0000 % (128 * 2 ^ size) ≡ 0)
point_sides zero h = (omega arith, refl)
point_sides (suc zero) h = (omega arith, refl)
point_sides (suc (suc zero)) h = (omega arith, refl)
point_sides (suc (suc (suc zero))) h = (omega arith, refl)
point_sides (suc (suc (suc (suc n)))) h = omega arith

-- The point of a sprite, by any bias: p and q are the matrix's numbers, x and y the offsets from the middle of its box.
pub turn_cross : {p q x y : ℤ} (a b i j m k n bias : ℕ) →
    p ≡ sub_ℕ a (2 ^ 15) → q ≡ sub_ℕ b (2 ^ 15) → x ≡ sub_ℕ i m → y ≡ sub_ℕ j k →
    n + (a * m + 2 ^ 15 * i + (b * k + 2 ^ 15 * j)) ≡ a * i + 2 ^ 15 * m + (b * j + 2 ^ 15 * k) + 256 * bias →
    down256 (p *ℤ x +ℤ q *ℤ y) ≡ sub_ℕ (n / 256) bias
turn_cross a b i j m k n bias p-is q-is x_is y_is e =
    ap₂ (λ (u v : ℤ). down256 (u +ℤ v)) (ap₂ ◌*ℤ◌ p-is x_is ∙ mul-subℕ a (2 ^ 15) i m) (ap₂ ◌*ℤ◌ q-is y_is ∙ mul-subℕ b (2 ^ 15) j k)
    ∙ ap down256 (add-subℕ (a * i + 2 ^ 15 * m) (a * m + 2 ^ 15 * i) (b * j + 2 ^ 15 * k) (b * k + 2 ^ 15 * j))
    ∙ down256_cross (a * i + 2 ^ 15 * m + (b * j + 2 ^ 15 * k)) (a * m + 2 ^ 15 * i + (b * k + 2 ^ 15 * j)) n bias e

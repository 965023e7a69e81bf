-- Laws of the points of an affine sprite, by naturals. No contract cites this file. Assumes nothing.
use Prim.Native.Nat.{ℕ, ◌+◌, ◌-◌, ◌*◌, ◌/◌, ◌^◌, ◌≤◌, ◌<◌}
use native.Mathlib.Nat.{mul-le-mul}
use native.Mathlib.Omega.{arith}
use mathlib.Core.Path.{◌≡◌, sym, ap, ap₂, ◌∙◌}
use lib.IntN.{ℤ, pos, sub_ℕ, ◌+ℤ◌, ◌-ℤ◌, ◌*ℤ◌}
use Rattle.signed.proofs.Difference.{subℕ-zero, subℕ-cross, sub-pos-subℕ, add-subℕ, add-subℕ-pos, mul-subℕ}
use Rattle.signed.proofs.Point.{turn_cross}
use Rattle.obj_sprites.specs.Oam.{Matrix}
use Rattle.obj_sprites.specs.Place.{box_width}
use Rattle.obj_sprites.specs.Color.{turn}
use Rattle.obj_texels.specs.Code.{point_at, StartOf, TurnOf}
use Rattle.obj_texels.specs.declared.turn.Turn.{Turn}
use Rattle.obj_sprites.specs.declared.attrs.ObjAttrs.{ObjAttrs}

-- A matrix's number, 2^15 larger, times a place of the box.
pub scaled_bound : (p k most : ℕ) → p < 2 ^ 16 → k ≤ most → p * k ≤ 65535 * most
scaled_bound p k most p< k≤ = let p≤ : p ≤ 65535 = omega arith in mul-le-mul p≤ k≤

pub sub_pos : (i m : ℕ) → pos i -ℤ pos m ≡ sub_ℕ i m
sub_pos i m =
    ap (λ z. pos i -ℤ z) (sym (subℕ-zero m))
    ∙ sub-pos-subℕ i m 0
    ∙ subℕ-cross (i + 0) m i m (omega arith)

-- Where column 0 lies, 256 to a pixel.
start_is : {p q iy : ℤ} (a b m k j start : ℕ)
    → p ≡ sub_ℕ a (2 ^ 15) → q ≡ sub_ℕ b (2 ^ 15) → iy ≡ pos j -ℤ pos k → StartOf a b m k j start
    → p *ℤ (pos 0 -ℤ pos m) +ℤ q *ℤ iy ≡ sub_ℕ start (2 ^ 24)
start_is a b m k j start p-is q-is iy-is s =
    ap₂ ◌+ℤ◌ (ap₂ ◌*ℤ◌ p-is (sub_pos 0 m) ∙ mul-subℕ a (2 ^ 15) 0 m)
    (ap₂ ◌*ℤ◌ q-is (iy-is ∙ sub_pos j k) ∙ mul-subℕ b (2 ^ 15) j k)
    ∙ add-subℕ (a * 0 + 2 ^ 15 * m) (a * m + 2 ^ 15 * 0) (b * j + 2 ^ 15 * k) (b * k + 2 ^ 15 * j)
    ∙ subℕ-cross (a * 0 + 2 ^ 15 * m + (b * j + 2 ^ 15 * k)) (a * m + 2 ^ 15 * 0 + (b * k + 2 ^ 15 * j)) start (2 ^ 24)
    (omega (arith, s.sum))

-- The point of column i, from where column 0 lies.
pub turn_is : {p q iy : ℤ} (a b m k j start i side : ℕ)
    → p ≡ sub_ℕ a (2 ^ 15) → q ≡ sub_ℕ b (2 ^ 15) → iy ≡ pos j -ℤ pos k → StartOf a b m k j start → i ≤ 127
    → turn p q (pos i -ℤ pos m) iy side ≡ sub_ℕ (point_at start a i side) (2 ^ 16)
unfolding turn
turn_is a b m k j start i side p-is q-is iy-is s i≤ =
    let n = start + a * i - 2 ^ 15 * i in
    let crossed : n + (a * m + 2 ^ 15 * i + (b * k + 2 ^ 15 * j)) ≡ a * i + 2 ^ 15 * m + (b * j + 2 ^ 15 * k) + 256 * 2 ^ 16
    = omega (arith, s.sum, s.start≥) in
    ap (λ z. z +ℤ pos (side / 2))
    (turn_cross a b i j m k n (2 ^ 16) p-is q-is (sub_pos i m) (iy-is ∙ sub_pos j k) crossed)
    ∙ add-subℕ-pos (n / 256) (2 ^ 16) (side / 2)

-- A matrix and the line's row in the box give each column's point.
pub turn_of_is : (m : Matrix) (s : ObjAttrs) {iy : ℤ} (t : Turn) (pb pd w j k : ℕ)
    → m.pa ≡ sub_ℕ t.pa (2 ^ 15) → m.pb ≡ sub_ℕ pb (2 ^ 15) → m.pc ≡ sub_ℕ t.pc (2 ^ 15) → m.pd ≡ sub_ℕ pd (2 ^ 15)
    → w ≡ box_width s → iy ≡ pos j -ℤ pos k
    → StartOf t.pa pb (w / 2) k j t.x → StartOf t.pc pd (w / 2) k j t.y
    → TurnOf m s iy t
turn_of_is m s {iy} t pb pd w j k pa-is pb-is pc-is pd-is w_is iy-is x_is y_is =
    record {
      pa_is = pa-is;
      pc_is = pc-is;
      x_start = rw (sym w_is) (start_is t.pa pb (w / 2) k j t.x pa-is pb-is iy-is x_is);
      y_start = rw (sym w_is) (start_is t.pc pd (w / 2) k j t.y pc-is pd-is iy-is y_is);
      x_is = λ i i≤. rw (sym w_is) (turn_is t.pa pb (w / 2) k j t.x i s.width pa-is pb-is iy-is x_is i≤);
      y_is = λ i i≤. rw (sym w_is) (turn_is t.pc pd (w / 2) k j t.y i s.height pc-is pd-is iy-is y_is i≤);
    }

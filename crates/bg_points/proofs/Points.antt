-- Laws of points. No contract cites this file. Assumes nothing.
use mathlib.Core.Path.{◌≡◌, sym, ap, ◌∙◌}
use mathlib.Core.Bool.{Bool, true, false, not}
use Prim.Native.Nat.{ℕ, ◌+◌, ◌-◌, ◌*◌, ◌/◌, ◌^◌, ◌≤◌, ◌<◌}
use native.Mathlib.Nat.{mod-eq_of_lt}
use native.Mathlib.Omega.{arith}
use lib.Dec.{leb, ltb}
use lib.IntN.{ℤ, sub_ℕ}
use borrow.Author.Tests.{not-true, not-false, leb-true, ltb-true}
use Rattle.bits.proofs.Booleans.{and_both}
use Rattle.rgb15.specs.Colour.{transparent}
use Rattle.signed.specs.Signed.{signed16, wrapped, within}
use Rattle.signed.proofs.Difference.{up, subℕ-view}
use Rattle.signed.proofs.Point.{point_is}
use Rattle.signed.proofs.Remainder.{within-subℕ}
use Rattle.bg_points.specs.Code.{coordinate}
use Rattle.bg_points.specs.Point.{transform_bg_point, shows, point_color}

-- A coordinate inside is a number from the bias up.
pub inside_is : (q side : ℕ) {t : Bool} → t ≡ within (coordinate q) side → t ≡ true → (0x1e0000 ≤ q) × (q - 0x1e0000 < side)
inside_is q side t-is inside =
    let both = and_both (leb 0x1e0000 q) (ltb q (0x1e0000 + side)) (sym (within-subℕ q 0x1e0000 side) ∙ sym t-is ∙ inside) in
    let from = leb-true 0x1e0000 q both.0 in
    (from, omega (arith, ltb-true q (0x1e0000 + side) both.1))

-- It is wrapped to itself.
pub wrapped-inside : (q side : ℕ) → 0x1e0000 ≤ q → q - 0x1e0000 < side → wrapped (coordinate q) side ≡ q - 0x1e0000
unfolding wrapped
wrapped-inside q side from below =
    ap (λ (z : ℤ). wrapped z side) (subℕ-view q 0x1e0000 (up (q - 0x1e0000) (omega arith))) ∙ mod-eq_of_lt below

module _ (wraparound : Bool) (w h : ℕ) (pixel : ℕ → ℕ → ℕ) (x y : ℤ) {t : Bool} (test : t ≡ shows wraparound w h x y) where
  -- A point that shows nothing is transparent.
  pub point_color_hidden : not t ≡ true → transparent ≡ point_color wraparound w h pixel x y
  unfolding point_color
  point_color_hidden hidden = rw (sym test ∙ not-true t hidden)

  -- A point that shows its pixel has the colour of the pixel at the point wrapped.
  pub point_color_shown : {c i j : ℕ} → not t ≡ false → i ≡ wrapped x w → j ≡ wrapped y h → c ≡ pixel i j
      → c ≡ point_color wraparound w h pixel x y
  unfolding point_color
  point_color_shown shown across down color = rw (sym test ∙ not-false t shown) (cc)

-- A coordinate of its point, from a lifted reference number and a lifted step.
pub transform_is : {z : ℤ} (a b step column q : ℕ) → z ≡ sub_ℕ a (2 ^ 28) → signed16 step ≡ sub_ℕ b (2 ^ 15) → column < 240 →
    q ≡ (a + 0xe000000 + column * b - column * 2 ^ 15) / 256 →
    transform_bg_point z step column ≡ coordinate q
unfolding transform_bg_point
transform_is a b step column q z-is step_is column< q-is = point_is a b column z-is step_is column< ∙ ap coordinate (sym q-is)

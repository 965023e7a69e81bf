-- Laws of a sprite's colours, by naturals: the box's left edge is l less 272. No contract cites this file. Assumes nothing.
use Prim.Native.Nat.{ℕ, ◌+◌, ◌-◌, ◌/◌, ◌≤◌, ◌<◌, min}
use native.Mathlib.Omega.{arith}
use mathlib.Core.Path.{◌≡◌, sym, ap₂, ◌∙◌}
use mathlib.Core.Bool.{true, false}
use mathlib.Core.List.{List}
use lib.Dec.{ltb}
use lib.IntN.{pos, sub_ℕ, nat_abs, ◌-ℤ◌}
use borrow.Author.Tests.{lt-ltb}
use Rattle.rgb15.specs.Colour.{transparent}
use Rattle.signed.specs.Signed.{within}
use Rattle.rows.specs.Below.{between}
use Rattle.tiles.specs.Flip.{flip}
use Rattle.regs.specs.declared.ObjMapping.{ObjMapping}
use Rattle.regs.specs.declared.reading.Reading.{Reading}
use Rattle.obj_sprites.specs.Oam.{Matrix}
use Rattle.obj_sprites.specs.Place.{box_width, box_height, left, below}
use Rattle.obj_sprites.specs.Tiles.{texel}
use Rattle.obj_sprites.specs.Color.{normal_color, color_at, affine_obj_color}
use Rattle.obj_texels.specs.Code.{box_point_color, TurnOf}
use Rattle.obj_texels.specs.declared.turn.Turn.{Turn}
use Rattle.obj_sprites.specs.declared.attrs.ObjAttrs.{ObjAttrs}
use Rattle.obj_sprites.proofs.Places.{across_above, across-between}

module _ (reading : Reading) (mapping : ObjMapping) (vram palette : List ℕ) (s : ObjAttrs) (line : ℕ) where
  module _ (l : ℕ) (left_is : left reading s ≡ sub_ℕ l 272) where
    -- A column of the box.
    pub normal_color-inside : (column : ℕ) {y : ℕ} → y ≡ flip s.v_flip s.height (nat_abs (below reading s line))
        → l ≤ column + 272 → column + 272 < l + s.width
        → texel reading mapping vram palette s (flip s.h_flip s.width (column + 272 - l)) y
        ≡ normal_color reading mapping vram palette s line column
    unfolding normal_color within
    normal_color-inside column y_is h u =
        let inside : ltb (column + 272 - l) s.width ≡ true = lt-ltb (column + 272 - l) s.width (omega arith) in
        rw (across_above reading s l left_is column h, inside, y_is)

    -- No other column has a pixel.
    pub normal_color_outside : {start end : ℕ} → start ≡ l - 272 → end ≡ min 240 (l + s.width - 272)
        → (column : ℕ) → column < 240 → between start end column ≡ false
        → normal_color reading mapping vram palette s line column ≡ transparent
    unfolding normal_color
    normal_color_outside start_is end_is column column< out =
        rw (sym (across-between reading s l left_is s.width column column< start_is end_is) ∙ out)

    module _ (m : Matrix) (t : Turn) (turn_is : TurnOf m s (below reading s line -ℤ pos (box_height s / 2)) t) where
      -- A column of an affine sprite's box.
      pub affine_obj_color-inside : (column : ℕ) → box_width s ≤ 128 → l ≤ column + 272 → column + 272 < l + box_width s
          → box_point_color reading mapping vram palette s t (column + 272 - l)
          ≡ affine_obj_color reading mapping vram palette m s line column
      unfolding affine_obj_color within
      affine_obj_color-inside column box≤ h u =
          let i = column + 272 - l in
          let i≤ : i ≤ 127 = omega arith in
          let inside : ltb (column + 272 - l) (box_width s) ≡ true
          = lt-ltb (column + 272 - l) (box_width s) (omega arith) in
          rw (across_above reading s l left_is column h, inside)
          (ap₂ (color_at reading mapping vram palette s) (sym (turn_is.x_is i i≤)) (sym (turn_is.y_is i i≤)))

    -- No other column has a pixel.
    pub affine_obj_color_outside : (m : Matrix) {start end : ℕ} → start ≡ l - 272 → end ≡ min 240 (l + box_width s - 272)
        → (column : ℕ) → column < 240 → between start end column ≡ false
        → affine_obj_color reading mapping vram palette m s line column ≡ transparent
    unfolding affine_obj_color
    affine_obj_color_outside m start_is end_is column column< out =
        rw (sym (across-between reading s l left_is (box_width s) column column< start_is end_is) ∙ out)

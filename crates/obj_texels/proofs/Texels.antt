-- Laws of a sprite's row of colours: a normal one's, tile by tile, and an affine one's, point by point. No contract cites this
-- file. Assumes nothing.
use Prim.Native.Nat.{ℕ, ◌+◌, ◌-◌, ◌*◌, ◌/◌, ◌%◌, ◌≤◌, ◌<◌}
use native.Mathlib.Omega.{arith}
use mathlib.Core.Path.{◌≡◌, refl, ap, ◌∙◌}
use mathlib.Core.Bool.{Bool, true, false, cond}
use mathlib.Core.List.{List}
use lib.ListN.{get_or, replicate, get_or-replicate}
use lib.IntN.{pos, sub_ℕ, nat_abs, ◌-ℤ◌}
use borrow.Author.Tests.{lt-ltb, le-ltb}
use Rattle.rgb15.specs.Colour.{rgb, transparent}
use Rattle.rgb15.specs.declared.Rgb15.{Rgb15}
use Rattle.rows.specs.Below.{between}
use Rattle.rows.specs.Cells.{only}
use Rattle.rows.specs.Tab.{tab, map_tab}
use Rattle.rows.proofs.Below.{between-inside}
use Rattle.rows.proofs.Tab.{get_or-of-tab, tab_cong}
use Rattle.memory.specs.Palette.{palette_color}
use Rattle.memory.specs.Tiles.{palette_bank, tile_pixel}
use Rattle.tiles.specs.Flip.{flip}
use Rattle.tiles.specs.declared.Tile.{Tile}
use Rattle.tiles.proofs.Rows.{flip_bound}
use Rattle.regs.specs.declared.ObjMapping.{ObjMapping}
use Rattle.regs.specs.declared.reading.Reading.{Reading}
use Rattle.obj_sprites.specs.Oam.{Matrix}
use Rattle.obj_sprites.specs.Place.{box_width, box_height, left, below}
use Rattle.obj_sprites.specs.Tiles.{tile_at, texel}
use Rattle.obj_sprites.specs.Color.{normal_color, affine_obj_color}
use Rattle.obj_sprites.specs.declared.attrs.ObjAttrs.{ObjAttrs}
use Rattle.obj_texels.specs.Code.{row_texel, box_point_color, affine_texel, TurnOf}
use Rattle.obj_texels.specs.declared.turn.Turn.{Turn}
use Rattle.obj_texels.proofs.Colors.{normal_color-inside, affine_obj_color-inside}

-- ---- the row of a tile

-- Pixel k of tile t of a flipped row is a flipped pixel of a flipped tile.
flip_tile : (set : Bool) (width tiles t k : ℕ) → width ≡ 8 * tiles → t < tiles → k < 8
    → 8 * flip set tiles t + flip set 8 k ≡ flip set width (8 * t + k)
unfolding flip
flip_tile true width tiles t k whole t< k< = omega arith
flip_tile false width tiles t k whole t< k< = omega arith

module _ (reading : Reading) (mapping : ObjMapping) (vram palette : List ℕ) (s : ObjAttrs) (y : ℕ) where
  -- Pixel b of tile a.
  texel_tile : (a b : ℕ) (tile : Tile) → b < 8
      → tile.addr ≡ tile_at reading mapping s (8 * a) y
      → tile.format ≡ s.format
      → tile.bank ≡ palette_bank s.format s.bank
      → palette_color palette 0x200 (tile_pixel vram tile.addr b (y % 8) tile.format) tile.bank
      ≡ texel reading mapping vram palette s (8 * a + b) y
  unfolding texel tile_at
  texel_tile a b tile b< addr_is format_is bank-is =
      let place : (8 * a + b) / 8 ≡ a = omega arith in
      let first : 8 * a / 8 ≡ a = omega arith in
      let pixel : (8 * a + b) % 8 ≡ b = omega arith in
      rw (addr_is, format_is, bank-is, place, first, pixel)

  -- The row of tile t as shown.
  pub row_shown : (t : ℕ) {tiles n : ℕ} {flipped : Bool} (tile : Tile) {r : List Rgb15} → s.width ≡ 8 * tiles → t < tiles
      → flipped ≡ s.h_flip
      → n ≡ flip flipped tiles t
      → tile.addr ≡ tile_at reading mapping s (8 * n) y
      → tile.format ≡ s.format
      → tile.bank ≡ palette_bank s.format s.bank
      → r
      ≡ tab
      (λ k. rgb (palette_color palette 0x200 (tile_pixel vram tile.addr (flip flipped 8 k) (y % 8) tile.format) tile.bank))
      8
      → r ≡ tab (λ k. rgb (texel reading mapping vram palette s (flip s.h_flip s.width (8 * t + k)) y)) 8
  row_shown t {tiles} {n} {flipped} tile whole t< flipped-is n-is addr_is format_is bank-is r-is =
      r-is
      ∙ tab_cong _ _ 8
      (λ k k<.
      ap rgb
      (texel_tile n (flip flipped 8 k) tile (flip_bound flipped 8 k k<) addr_is format_is bank-is
      ∙ ap (λ x. texel reading mapping vram palette s x y)
      (ap (λ n. 8 * n + flip flipped 8 k) n-is
      ∙ flip_tile flipped s.width tiles t k whole t< k<
      ∙ ap (λ set. flip set s.width (8 * t + k)) flipped-is)))

-- ---- a row of 128 columns

module _ (reading : Reading) (mapping : ObjMapping) (vram palette : List ℕ) (s : ObjAttrs) (y x : ℕ) where
  pub row_texel-inside : x < s.width
      → row_texel reading mapping vram palette s y x
      ≡ texel reading mapping vram palette s (flip s.h_flip s.width x) y
  unfolding row_texel
  row_texel-inside x< = rw (lt-ltb x s.width x<)

  pub row_texel_outside : s.width ≤ x → row_texel reading mapping vram palette s y x ≡ transparent
  unfolding row_texel
  row_texel_outside x≥ = rw (le-ltb x s.width x≥)

-- A column of the box, by the row of colours.
pub normal_color-row : (reading : Reading) (mapping : ObjMapping) (vram palette : List ℕ) (s : ObjAttrs) (line l : ℕ)
    → left reading s ≡ sub_ℕ l 272 → s.width ≤ 64
    → (column : ℕ) (colors : List Rgb15) {y : ℕ}
    → y ≡ flip s.v_flip s.height (nat_abs (below reading s line))
    → colors ≡ tab (λ x. rgb (row_texel reading mapping vram palette s y x)) 128
    → l ≤ column + 272 → column + 272 < l + s.width
    → (get_or colors (column + 272 - l) (rgb 0)).0 ≡ normal_color reading mapping vram palette s line column
normal_color-row reading mapping vram palette s line l left_is width≤ column colors {y} y_is colors-are h u =
    ap (λ c. c.0)
    (get_or-of-tab
    (λ x. rgb (row_texel reading mapping vram palette s y x)) 128 (column + 272 - l) (rgb 0) colors-are (omega arith))
    ∙ row_texel-inside reading mapping vram palette s y (column + 272 - l) (omega arith)
    ∙ normal_color-inside reading mapping vram palette s line l left_is column y_is h u

-- ---- the row of an affine sprite's box

module _ (reading : Reading) (mapping : ObjMapping) (vram palette : List ℕ) (s : ObjAttrs) (t : Turn) where
  pub affine_texel-inside : (from to i : ℕ) → from ≤ i → i < to
      → affine_texel reading mapping vram palette s t from to i ≡ box_point_color reading mapping vram palette s t i
  unfolding affine_texel
  affine_texel-inside from to i i≥ i< = rw (between-inside from to i i≥ i<)

  -- The columns that are not set stay transparent.
  pub affine_texel-row : (from to n : ℕ) (d : Rgb15)
      → map_tab (only (between from to) (λ i _. rgb (box_point_color reading mapping vram palette s t i))) n d
      (replicate n (rgb transparent))
      ≡ tab (λ i. rgb (affine_texel reading mapping vram palette s t from to i)) n
  unfolding map_tab affine_texel
  affine_texel-row from to n d =
      tab_cong _ _ n
      (λ i i<.
      ap (cond (between from to i) (rgb (box_point_color reading mapping vram palette s t i)))
      (get_or-replicate n i (rgb transparent) d i<)
      ∙ rgb-cond (between from to i) (box_point_color reading mapping vram palette s t i))
    where
      rgb-cond : (b : Bool) (a : ℕ) → cond b (rgb a) (rgb transparent) ≡ rgb (cond b a transparent)
      rgb-cond true a = refl
      rgb-cond false a = refl

  -- A column of the box, by the row of colours.
  pub affine_obj_color-row : (line l : ℕ) → left reading s ≡ sub_ℕ l 272
      → (m : Matrix) → TurnOf m s (below reading s line -ℤ pos (box_height s / 2)) t → box_width s ≤ 128
      → (from to column : ℕ) (colors : List Rgb15)
      → colors ≡ tab (λ i. rgb (affine_texel reading mapping vram palette s t from to i)) 128
      → l ≤ column + 272 → column + 272 < l + box_width s → from ≤ column + 272 - l → column + 272 - l < to
      → (get_or colors (column + 272 - l) (rgb 0)).0 ≡ affine_obj_color reading mapping vram palette m s line column
  affine_obj_color-row line l left_is m turn_is box≤ from to column colors colors-are h u i≥ i< =
      ap (λ c. c.0)
      (get_or-of-tab
      (λ i. rgb (affine_texel reading mapping vram palette s t from to i)) 128 (column + 272 - l) (rgb 0) colors-are
      (omega arith))
      ∙ affine_texel-inside from to (column + 272 - l) i≥ i<
      ∙ affine_obj_color-inside reading mapping vram palette s line l left_is m t turn_is column box≤ h u

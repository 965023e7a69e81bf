-- Laws of maps and tiles. No contract cites this file. Assumes nothing.
use Prim.Native.Nat.{ℕ, ◌+◌, ◌*◌, ◌/◌, ◌%◌, ◌≤◌, ◌<◌}
use mathlib.Core.Path.{◌≡◌, refl, sym, ap, ◌∙◌}
use mathlib.Core.Logic.{◌⊎◌, inl, inr, ⊎_elim}
use mathlib.Core.Bool.{Bool, true}
use mathlib.Core.List.{List}
use native.Mathlib.Nat.{mul-le-mul, eq-or-lt_of_le}
use native.Mathlib.Omega.{arith}
use lib.ListN.{get_or, replicate}
use Rattle.rgb15.specs.Colour.{rgb, transparent}
use Rattle.rgb15.specs.declared.Rgb15.{Rgb15}
use Rattle.rows.specs.Tab.{tab}
use Rattle.rows.proofs.Tab.{get_or-of-tab, tab_cong}
use Rattle.memory.specs.declared.Colors.{Colors}
use Rattle.std.specs.List.{flat_map}
use Rattle.memory.specs.Tiles.{tile_size, palette_bank}
use Rattle.memory.specs.declared.PixelFormat.{PixelFormat}
use Rattle.tiles.specs.Flip.{flip}
use Rattle.tiles.proofs.Empty.{empty_row, row_empty}
use Rattle.bg_regular.specs.Regular.{tile_index, x_flip, y_flip, entry_bank, tile_color, entry_color}
use Rattle.bg_regular.specs.Regular.{map_entry, regular_pixel, regular_color}
use Rattle.bg_regular.specs.Code.{MapSide, RegularMapOf, map_pixel}
use Rattle.bg_regular.specs.declared.RegularMap.{RegularMap}

-- The blocks of the rows above a pixel of a regular map.
pub block_row_bound : (width y : ℕ) → width ≤ 512 → y < 512 → width / 256 * (y / 256) ≤ 2
block_row_bound width y width≤ y< =
    let across : width / 256 ≤ 2 = omega arith in
    let down : y / 256 ≤ 1 = omega arith in
    omega (arith, mul-le-mul across down)

module _ (vram palette : List ℕ) (tiles : ℕ) (format : PixelFormat) (entry y : ℕ)
    {index size down : ℕ} {yflip : Bool}
    (index_is : index ≡ tile_index entry) (size_is : size ≡ tile_size format)
    (yflip-is : yflip ≡ y_flip entry) (down_is : down ≡ flip yflip 8 y) where
  -- The eight colours that an entry shows, as they are made: what is read of the entry, and a row of its tile, flipped.
  pub entry_row_is : {number bank : ℕ} {xflip : Bool} {r : List Rgb15} →
      number ≡ entry_bank entry → bank ≡ palette_bank format number → xflip ≡ x_flip entry →
      r ≡ tab (λ x. rgb (tile_color vram palette (tiles + index * size) (flip xflip 8 x) down format bank)) 8 →
      r ≡ tab (λ x. rgb (entry_color vram palette tiles format entry x y)) 8
  unfolding entry_color
  entry_row_is number_is bank-is xflip-is r-is = r-is ∙ tab_cong _ _ 8 (λ x x<. (cc))

  -- The same of a row with nothing in it, which is seen before the rest is read.
  pub entry_row_empty : {t : Bool} → t ≡ empty_row vram (tiles + index * size) down format → t ≡ true →
      replicate 8 (rgb transparent) ≡ tab (λ x. rgb (entry_color vram palette tiles format entry x y)) 8
  entry_row_empty t-is t-holds = entry_row_is refl refl refl
      (row_empty vram palette 0 (tiles + index * size) down format (palette_bank format (entry_bank entry)) (x_flip entry) t-is t-holds)

-- ---- the eight columns of a tile

-- The column r of a tile that starts at x.
pub map_entry_tile : (vram : List ℕ) (screen width x y r : ℕ) → x % 8 ≡ 0 → r < 8
    → map_entry vram screen width (x + r) y ≡ map_entry vram screen width x y
unfolding map_entry
map_entry_tile vram screen width x y r whole r< =
    let block : (x + r) / 256 ≡ x / 256 = omega arith in
    let tile : (x + r) / 8 ≡ x / 8 = omega arith in
    rw (block, tile)

-- A tile of a line, with an offset of whole tiles, starts at a multiple of eight, and is not cut by the width.
record TileColumn (width column first r : ℕ) : Type 0 where
  pub whole : first % width % 8 ≡ 0
  pub next : column % width ≡ first % width + r

tile_column : (width tile r : ℕ) → (width ≡ 256) ⊎ (width ≡ 512) → r < 8 → TileColumn width (8 * tile + r) (8 * tile) r
tile_column width tile r widths r< =
    ⊎_elim
    (λ e. rw e (record { whole = omega arith; next = omega arith }))
    (λ e. rw e (record { whole = omega arith; next = omega arith }))
    widths

pub side_cases : (side : ℕ) → MapSide side → (side ≡ 256) ⊎ (side ≡ 512)
side_cases side s =
    ⊎_elim (λ e. inl (sym e)) (λ lt. inr (omega (arith, lt, s.whole, s.side≤))) (eq-or-lt_of_le s.side≥)

-- The eight colours that the entry of a tile's first column shows are those of its eight columns.
pub tile_row_is : (c : Colors) (m : RegularMap) (tile y : ℕ) {first entry : ℕ} {r : List Rgb15} →
    (m.width ≡ 256) ⊎ (m.width ≡ 512) → first ≡ 8 * tile % m.width → entry ≡ map_entry c.vram.now m.tilemap_base m.width first y →
    r ≡ tab (λ x. rgb (entry_color c.vram.now c.palette.now m.tileset_base m.format entry x (y % 8))) 8 →
    r ≡ tab (λ x. rgb (map_pixel c m ((8 * tile + x) % m.width) y)) 8
tile_row_is c m tile y {first} {entry} widths first_is entry-is r-is = r-is ∙ tab_cong _ _ 8 (λ x x<. ap rgb (color x x<))
  where
    color : (x : ℕ) → x < 8 → entry_color c.vram.now c.palette.now m.tileset_base m.format entry x (y % 8)
        ≡ map_pixel c m ((8 * tile + x) % m.width) y
    color x x< =
        let column = tile_column m.width tile x widths x< in
        let next : (8 * tile + x) % m.width ≡ first + x = column.next ∙ ap (λ (n : ℕ). n + x) (sym first_is) in
        let whole : first % 8 ≡ 0 = ap (λ (n : ℕ). n % 8) first_is ∙ column.whole in
        let pixel : (first + x) % 8 ≡ x = omega arith in
        rw (next, pixel, entry-is, map_entry_tile c.vram.now m.tilemap_base m.width first y x whole x<) refl

-- So a tile of a map is eight columns of the line.
pub map_tile_is : (c : Colors) (control hofs vofs line t y : ℕ) {m : RegularMap} {r : List Rgb15} →
    RegularMapOf control m → y ≡ (line + vofs) % m.height →
    r ≡ tab (λ x. rgb (map_pixel c m ((8 * (hofs / 8 + t) + x) % m.width) y)) 8 →
    r ≡ tab (λ x. rgb (regular_color c.vram.now c.palette.now control (hofs / 8 * 8) vofs (8 * t + x) line)) 8
unfolding regular_color regular_pixel
map_tile_is c control hofs vofs line t y map-is y_is r-is =
    r-is ∙ tab_cong _ _ 8 (λ x x<.
    let column : 8 * (hofs / 8 + t) + x ≡ 8 * t + x + hofs / 8 * 8 = omega arith in
    ap rgb (cc (column, map-is.screen_is, map-is.tiles_is, map-is.format_is, map-is.width_is, map-is.height_is, y_is)))

-- The tiles one after another are the columns.
pub flat_tiles : {A : Type 0} (f : ℕ → A) → flat_map (λ x. x) (tab (λ t. tab (λ x. f (8 * t + x)) 8) 31) ≡ tab f 248
unfolding tab
flat_tiles f = refl

-- The offset's part below a tile may as well be added to the column.
regular_color_offset : (vram palette : List ℕ) (control hofs vofs column line : ℕ)
    → regular_color vram palette control (hofs / 8 * 8) vofs (column + hofs % 8) line ≡ regular_color vram palette control hofs vofs column line
unfolding regular_color
regular_color_offset vram palette control hofs vofs column line =
    let e : column + hofs % 8 + hofs / 8 * 8 ≡ column + hofs = omega arith in
    rw e

-- So a column of the line is one of the 31 whole tiles that it goes through.
pub regular_column_is : (vram palette : List ℕ) (control hofs vofs column line : ℕ) (d : Rgb15) {tiles : List Rgb15} →
    tiles ≡ tab (λ x. rgb (regular_color vram palette control (hofs / 8 * 8) vofs x line)) 248 → column < 240 →
    get_or tiles (column + hofs % 8) d ≡ rgb (regular_color vram palette control hofs vofs column line)
regular_column_is vram palette control hofs vofs column line d tiles-is column< =
    get_or-of-tab _ 248 (column + hofs % 8) d tiles-is (omega arith)
    ∙ ap rgb (regular_color_offset vram palette control hofs vofs column line)

-- Laws of a column: the colour that code computes of it is its pixel. No contract cites this file. Assumes nothing.
use Prim.Native.Nat.{ℕ, ◌<◌}
use mathlib.Core.Path.{◌≡◌, refl, ap, ◌∙◌}
use mathlib.Core.List.{List, [], map}
use mathlib.Core.Bool.{true}
use lib.ListN.{get_or}
use Rattle.std.specs.Prelude.{Option, Some, None}
use Rattle.rgb15.specs.Colour.{rgb, to_rgb24}
use Rattle.rgb15.specs.declared.Rgb15.{Rgb15}
use Rattle.rows.specs.Cells.{cell_at, row_of}
use Rattle.rows.specs.Tab.{tab}
use Rattle.rows.specs.Words.{word_cells}
use Rattle.rows.proofs.Cells.{row_of_cong}
use Rattle.rows.proofs.Tab.{get_or-of-tab}
use Rattle.memory.specs.Palette.{backdrop}
use Rattle.regs.specs.Registers.{dispcnt}
use Rattle.regs.specs.Display.{enable_obj}
use Rattle.regs.specs.declared.reading.Reading.{Reading}
use Rattle.regs_blend.specs.declared.BlendMode.{BlendMode}
use Rattle.obj_entries.specs.Entry.{entry_cells, semi_mark}
use Rattle.sfx_regions.specs.Region.{permitted}
use Rattle.sfx_regions.specs.Code.{region_at}
use Rattle.sfx_sorting.specs.Ordered.{ordered}
use Rattle.sfx_sorting.specs.Code.{number_in, places}
use Rattle.sfx_sorting.specs.declared.background.Background.{Background}
use Rattle.sfx_layers.specs.Layers.{backgrounds}
use Rattle.sfx_layers.specs.Code.{line_color, object_tag, column_region, LineLayersOf}
use Rattle.sfx_layers.specs.declared.layer.LineLayers.{LineLayers}
use Rattle.sfx_layers.proofs.Columns.{column-pair}
use Rattle.sfx_layers.proofs.Places.{placed_layers, number_at, color_in, placed_layers-ordered}
use Rattle.sfx_layers.proofs.Tags.{region-bits}
use Rattle.sfx_effects.specs.Code.{WeightsOf}
use Rattle.sfx_effects.specs.declared.weights.Weights.{Weights}
use Rattle.sfx_effects.proofs.Colors.{pair-color}
use Rattle.sfx.specs.Pixel.{case_in, case_of, case_color, pixel}
use Rattle.sfx.specs.Code.{line_in, colors_at, column_color}
use Rattle.sfx.specs.declared.Rows.{Rows}

-- The colour of what a place holds, by its line.
line_color-in : (lines : List (List Rgb15)) (column : ℕ) (place : Option ℕ)
    → line_color (line_in lines place) column ≡ color_in (λ bg. line_color (get_or lines bg []) column) place
line_color-in lines column None = refl
line_color-in lines column (Some bg) = refl

-- Rows are those of a line, by its entries, its places, its layers and the lines of backgrounds 0 to 3.
pub record RowsOf (reading : Reading) (registers entries : List ℕ) (line : ℕ) (at : List (Option Background)) (l : LineLayers BlendMode)
    (lines : List (List Rgb15)) (rows : Rows) : Type 0 where
  pub regions_are : rows.regions.now ≡ tab (column_region reading registers entries (map number_in at) line) 240
  pub tags_are : rows.tags.now ≡ tab (λ column. object_tag l.object (cell_at entry_cells entries column)) 240
  pub objects_are : rows.objects.now ≡ tab (λ column. (cell_at entry_cells entries column).color.0) 240
  pub first_is : rows.first.now ≡ line_in lines (number_at at 0)
  pub second_is : rows.second.now ≡ line_in lines (number_at at 1)
  pub third_is : rows.third.now ≡ line_in lines (number_at at 2)
  pub fourth_is : rows.fourth.now ≡ line_in lines (number_at at 3)

module _ (reading : Reading) (palette registers entries : List ℕ) (line : ℕ) (at : List (Option Background))
    (lines : List (List Rgb15)) {l : LineLayers BlendMode} {w : Weights} {rows : Rows}
    (at-is : map number_in at ≡ places (ordered registers))
    (l-is : LineLayersOf palette registers (map number_in at) l) (w_is : WeightsOf reading registers w)
    (rows_are : RowsOf reading registers entries line at l lines rows) where
  -- The layers of a column's places are the backgrounds in their order.
  layers_are : (column : ℕ)
      → placed_layers registers (number_at at) (line_color (colors_at rows column))
      ≡ backgrounds registers (λ bg. line_color (get_or lines bg []) column)
  unfolding placed_layers
  layers_are column =
      rw (color 0 rows_are.first_is, color 1 rows_are.second_is, color 2 rows_are.third_is, color 3 rows_are.fourth_is)
      (placed_layers-ordered registers (λ bg. line_color (get_or lines bg []) column) at at-is)
    where
      color : (k : ℕ) {row : List Rgb15} → row ≡ line_in lines (number_at at k)
          → line_color row column ≡ color_in (λ bg. line_color (get_or lines bg []) column) (number_at at k)
      color k row_is = ap (λ row. line_color row column) row_is ∙ line_color-in lines column (number_at at k)

  -- The colour of a column, as its rows give it.
  pixel_is : (column : ℕ) → column < 240
      → to_rgb24 (column_color true l w rows column)
      ≡ pixel reading registers (backdrop palette) (backgrounds registers (λ bg. line_color (get_or lines bg []) column))
      (cell_at entry_cells entries column) column line
  unfolding pixel case_of case_in case_color column_color
  pixel_is column lt =
      let e = cell_at entry_cells entries column in
      let flags = permitted registers (region_at reading registers entries column line) in
      rw (
        get_or-of-tab _ 240 column 0 rows_are.regions_are lt,
        get_or-of-tab _ 240 column 0 rows_are.tags_are lt,
        get_or-of-tab _ 240 column 0 rows_are.objects_are lt,
      )
      (rw (
        column-pair palette registers at l-is (colors_at rows column) e flags,
        l-is.mode_is,
        (region-bits (enable_obj (dispcnt registers)) (map number_in at) flags).effects_is,
        layers_are column,
      )
      (pair-color reading registers (semi_mark e) flags _ w_is))

  pub scanline_is : {out : List ℕ} {colors : List Rgb15}
      → colors ≡ tab (λ column. rgb (column_color true l w rows column)) 240
      → out ≡ row_of word_cells (λ column. to_rgb24 (line_color colors column)) 240
      → out ≡ row_of word_cells
      (λ column.
      pixel reading registers (backdrop palette) (backgrounds registers (λ bg. line_color (get_or lines bg []) column))
      (cell_at entry_cells entries column) column line)
      240
  scanline_is colors-are out-is =
      out-is
      ∙ row_of_cong word_cells _ _ 240
      (λ column lt.
      ap (λ (c : Rgb15). to_rgb24 c.0) (get_or-of-tab _ 240 column (rgb 0) colors-are lt)
      ∙ pixel_is column lt)

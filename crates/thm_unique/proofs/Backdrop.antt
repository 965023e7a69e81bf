-- The first pixel of a line on which nothing is on is the backdrop's. No contract cites this file. Assumes nothing.
use Prim.Native.Nat.{ℕ}
use native.Mathlib.Omega.{arith}
use mathlib.Core.Path.{◌≡◌, ap, ◌∙◌}
use mathlib.Core.List.{List}
use Rattle.rows.specs.Cells.{cell_at}
use Rattle.rows.specs.Words.{word_cells}
use Rattle.rows.specs.Tab.{tab}
use Rattle.rows.proofs.Cells.{cell_at_row_of}
use Rattle.rgb15.specs.Colour.{to_rgb24}
use Rattle.memory.specs.Sizes.{video_ram_size, palette_ram_size, oam_size, registers_size}
use Rattle.regs.specs.Registers.{DISPCNT, BLDCNT}
use Rattle.regs.specs.declared.reading.Reading.{Reading}
use Rattle.obj_entries.specs.declared.Entry.{Entry}
use Rattle.sfx_regions.specs.Region.{region, permitted}
use Rattle.sfx_sorting.specs.Ordered.{keep, stands, ordered}
use Rattle.sfx_layers.specs.Layers.{backgrounds, first_two, object_counts, layers}
use Rattle.sfx_effects.specs.Effects.{effect, effect_color}
use Rattle.sfx.specs.Pixel.{case_in, case_of, case_color, pixel}
use Rattle.gpu.specs.Line.{pixel_at, line_after}
use Rattle.thm_unique.specs.Inputs.{zeros, first_line, dark, lit}
use Rattle.thm_unique.proofs.Accepted.{pair, half-tab}

-- Registers with nothing on.
abbrev nothing_on : List ℕ
nothing_on = zeros registers_size

-- With nothing on, a pixel is the backdrop's, whatever the entry and the column.
pixel_off : (reading : Reading) (backdrop : ℕ) (color : ℕ → ℕ) (e : Entry) (column line : ℕ)
    → pixel reading nothing_on backdrop (backgrounds nothing_on color) e column line ≡ to_rgb24 backdrop
unfolding pixel case_color case_of case_in region permitted layers first_two object_counts ordered stands keep effect effect_color
pixel_off reading backdrop color e column line =
    rw (half-tab _ registers_size DISPCNT (omega arith), half-tab _ registers_size BLDCNT (omega arith))

module _ (palette : ℕ → ℕ) (after : List ℕ) where
  pixel-backdrop : cell_at word_cells
      (line_after (first_line (zeros video_ram_size) (tab palette palette_ram_size) (zeros oam_size) nothing_on) after) 0
      ≡ to_rgb24 (pair palette 0)
  unfolding line_after pixel_at
  pixel-backdrop =
      cell_at_row_of word_cells _ 240 0 (omega arith)
      ∙ pixel_off _ _ _ _ _ _
      ∙ ap to_rgb24 (half-tab palette palette_ram_size 0 (omega arith))

-- Black.
pub pixel-dark : (after : List ℕ) → cell_at word_cells (line_after dark after) 0 ≡ 0
pixel-dark after = pixel-backdrop (λ _. 0) after

-- Red.
pub pixel-lit : (after : List ℕ) → cell_at word_cells (line_after lit after) 0 ≡ 0xf80000
pixel-lit after = pixel-backdrop _ after

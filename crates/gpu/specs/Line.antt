-- The line of an accepted draw (01, "What one draw takes and gives", "Numbers a draw may return"; GBATEK, "LCD I/O Display
-- Control"). Assumes nothing.
use Rattle.std.specs.Prelude.{ℕ, cond, List}
use Rattle.rows.specs.Cells.{cell_at, row_of}
use Rattle.rows.specs.Words.{word_cells}
use Rattle.memory.specs.Sizes.{display_width}
use Rattle.memory.specs.Palette.{backdrop}
use Rattle.regs.specs.Registers.{dispcnt}
use Rattle.regs.specs.Display.{enable_obj}
use Rattle.regs.specs.Reading.{reading_of}
use Rattle.bg.specs.Background.{background_color}
use Rattle.obj_sprites.specs.Sprite.{source}
use Rattle.obj_entries.specs.Entry.{entry_cells}
use Rattle.obj.specs.Put.{put_sprites}
use Rattle.sfx_layers.specs.Layers.{backgrounds}
use Rattle.sfx.specs.Pixel.{pixel}
use Rattle.gpu_judge.specs.Judge.{Call}

-- With sprites on, the entries afterwards are what the sprites make of them; else they stay.
unfoldable pub entries_after : Call → List ℕ → List ℕ
entries_after c entries =
    let put = put_sprites (reading_of c.reading) (source c.memory) c.line entries in
    cond (enable_obj (dispcnt c.memory.registers)) put entries

-- The colour of a background at a column.
abbrev pub color_of : Call → ℕ → ℕ → ℕ
color_of c bg column =
    background_color c.memory.vram c.memory.palette c.memory.registers c.references bg column c.line

-- The pixel of a column, by the entries as they stand after the sprites.
unfoldable pub pixel_at : Call → List ℕ → ℕ → ℕ
pixel_at c after column =
    pixel (reading_of c.reading) c.memory.registers (backdrop c.memory.palette)
    (backgrounds c.memory.registers (λ bg. color_of c bg column))
    (cell_at entry_cells after column) column c.line

-- The line: all 240 pixels, as 24-bit colour in four bytes.
unfoldable pub line_after : Call → List ℕ → List ℕ
line_after c after = row_of word_cells (λ column. pixel_at c after column) display_width

-- Forced blank writes 0xf8f8f8 to all 240 pixels.
abbrev pub blank_line : List ℕ
blank_line = row_of word_cells (λ _. 0xf8f8f8) display_width

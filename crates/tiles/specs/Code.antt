-- As code has it: a tile and the colours of its pixels (01, "Backgrounds", "Sprites"; GBATEK, "LCD VRAM Overview, Character
-- Data, BG Screen Data Format").
-- No exported contract reaches this file. Assumes nothing.
use Rattle.std.specs.Prelude.{ℕ, ◌+◌, ◌*◌, ◌≤◌, ◌<◌}
use Rattle.memory.specs.Palette.{palette_color}
use Rattle.memory.specs.Sizes.{video_ram_size}
use Rattle.memory.specs.Tiles.{colours, tile_pixel}
use Rattle.memory.specs.declared.Colors.{Colors}
use Rattle.tiles.specs.declared.Tile.{Tile}

-- A tile of video memory, whose colours are a bank of the backgrounds' half of the palette or, at offset 0x200, of the sprites'.
pub record TileColors (offset : ℕ) (t : Tile) : Type 0 where
  pub addr< : t.addr + 63 < video_ram_size
  pub offset≤ : offset ≤ 0x200
  pub bank≤ : 16 * t.bank + colours t.format ≤ 256

-- The colour of a pixel of a tile.
abbrev pub color_in_tile : Colors → ℕ → Tile → ℕ → ℕ → ℕ
color_in_tile c offset t x y = palette_color c.palette.now offset (tile_pixel c.vram.now t.addr x y t.format) t.bank

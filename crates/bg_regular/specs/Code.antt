-- As code has it: what a regular background's line and map are read from (01, "Backgrounds", its first paragraph).
-- No exported contract reaches this file. Assumes nothing.
use Rattle.std.specs.Prelude.{ℕ, ◌%◌, ◌≤◌, ◌<◌, ◌≡◌}
use Rattle.memory.specs.declared.Colors.{Colors}
use Rattle.regs.specs.Background.{character_base_block, screen_base_block, palette256, size, char_block, screen_block}
use Rattle.regs.specs.Background.{regular_width, regular_height, tile_format}
use Rattle.bg_regular.specs.Regular.{map_entry, entry_color}
use Rattle.bg_regular.specs.declared.RegularLine.{RegularLine}
use Rattle.bg_regular.specs.declared.RegularMap.{RegularMap}

-- The offsets have nine bits, and the line is one of the screen's.
pub record Scrolled (l : RegularLine) : Type 0 where
  pub hofs< : l.hofs < 512
  pub vofs< : l.vofs < 512
  pub line< : l.line < 160

-- A side of a map is 256 or 512.
pub record MapSide (side : ℕ) : Type 0 where
  pub whole : side % 256 ≡ 0
  pub side≥ : 256 ≤ side
  pub side≤ : side ≤ 512

-- The map and its tiles lie in video memory.
pub record Placed (m : RegularMap) : Type 0 where
  pub screen≤ : m.tilemap_base ≤ 0xf800
  pub tiles≤ : m.tileset_base ≤ 0xc000
  pub width_side : MapSide m.width
  pub height_side : MapSide m.height

-- A map is what its control says.
pub record RegularMapOf (control : ℕ) (m : RegularMap) : Type 0 where
  pub screen_is : m.tilemap_base ≡ screen_block (screen_base_block control)
  pub tiles_is : m.tileset_base ≡ char_block (character_base_block control)
  pub format_is : m.format ≡ tile_format (palette256 control)
  pub width_is : m.width ≡ regular_width (size control)
  pub height_is : m.height ≡ regular_height (size control)

-- The colour at x and y of a map.
abbrev pub map_pixel : Colors → RegularMap → ℕ → ℕ → ℕ
map_pixel c m x y =
    entry_color c.vram.now c.palette.now m.tileset_base m.format
    (map_entry c.vram.now m.tilemap_base m.width x y) (x % 8) (y % 8)

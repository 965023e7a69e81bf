-- A sprite's tiles (01, "Sprites"; 02, W-203; GBATEK, "LCD OBJ - OAM Attributes", "LCD OBJ - VRAM Character (Tile) Mapping",
-- "LCD VRAM Overview"). Assumes nothing.
use Rattle.std.specs.Prelude.{ℕ, ◌+◌, ◌*◌, ◌/◌, ◌%◌, Bool, true, false, cond, List, ltb}
use Rattle.memory.specs.Palette.{PALRAM_OFS_FG, palette_color}
use Rattle.memory.specs.Tiles.{tile_size, palette_bank, tile_pixel}
use Rattle.memory.specs.declared.PixelFormat.{PixelFormat}
use Rattle.memory.specs.declared.PixelFormat.TheVariants.{BPP4, BPP8}
use Rattle.regs.specs.declared.ObjMapping.{ObjMapping}
use Rattle.regs.specs.declared.ObjMapping.TheVariants.{TwoDimension, OneDimension}
use Rattle.regs.specs.declared.reading.Reading.{Reading}
use Rattle.regs.specs.declared.reading.Reading.TheVariants.{R, H}
use Rattle.obj_sprites.specs.declared.attrs.ObjAttrs.{ObjAttrs}

-- Sprite tiles are counted from 0x10000 (LCD VRAM Overview).
abbrev pub OVRAM : ℕ
OVRAM = 0x10000

-- The start of sprite tiles: 0x14000 in modes 3 to 5 (and 6 and 7, in which no draw is accepted), else 0x10000 (LCD VRAM
-- Overview).
unfoldable pub tiles_start : ℕ → ℕ
tiles_start mode = cond (ltb mode 3) OVRAM 0x14000

-- Whether the lowest bit of a sprite's tile number is ignored: H ignores it for 256 colours in two-dimensional mapping
-- (02, W-203; LCD OBJ - OAM Attributes). R counts it (DIFFERENCES, 4).
unfoldable pub ignores_lowest_bit : Reading → ObjMapping → PixelFormat → Bool
ignores_lowest_bit reading OneDimension format = false
ignores_lowest_bit reading TwoDimension BPP4 = false
ignores_lowest_bit R TwoDimension BPP8 = false
ignores_lowest_bit H TwoDimension BPP8 = true

-- The tile number as the reading counts it.
unfoldable pub tile_number : Reading → ObjMapping → ObjAttrs → ℕ
tile_number reading mapping s = cond (ignores_lowest_bit reading mapping s.format) (2 * (s.tile / 2)) s.tile

-- The sprite's first tile: the number counts 32-byte steps, for 8bpp too.
unfoldable pub tile_base : Reading → ObjMapping → ObjAttrs → ℕ
tile_base reading mapping s = OVRAM + 32 * tile_number reading mapping s

-- Tile rows are width/8 tiles wide in one-dimensional mapping, else 16 (8bpp) or 32.
unfoldable pub tile_row : ObjMapping → PixelFormat → ℕ → ℕ
tile_row OneDimension format width = width / 8
tile_row TwoDimension BPP8 width = 16
tile_row TwoDimension BPP4 width = 32

-- The address of the tile that holds pixel (x, y) of the sprite.
unfoldable pub tile_at : Reading → ObjMapping → ObjAttrs → ℕ → ℕ → ℕ
tile_at reading mapping s x y =
    tile_base reading mapping s + tile_size s.format * (x / 8 + tile_row mapping s.format s.width * (y / 8))

-- The colour of pixel (x, y) of the sprite, from the sprites' half of the palette.
unfoldable pub texel : Reading → ObjMapping → List ℕ → List ℕ → ObjAttrs → ℕ → ℕ → ℕ
texel reading mapping vram palette s x y =
    palette_color palette PALRAM_OFS_FG
    (tile_pixel vram (tile_at reading mapping s x y) (x % 8) (y % 8) s.format)
    (palette_bank s.format s.bank)

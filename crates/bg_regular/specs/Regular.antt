-- Regular backgrounds (01, "Backgrounds", its first paragraph; GBATEK, "LCD I/O BG Control", "LCD I/O BG Scrolling",
-- "LCD VRAM Overview, Character Data, BG Screen Data Format"). Assumes nothing.
use Rattle.std.specs.Prelude.{ℕ, ◌+◌, ◌*◌, ◌/◌, ◌%◌, Bool, List}
use Rattle.bits.specs.Bits.{bits, bit}
use Rattle.memory.specs.Memory.{half}
use Rattle.memory.specs.Palette.{palette_color}
use Rattle.memory.specs.Tiles.{tile_size, palette_bank, tile_pixel}
use Rattle.memory.specs.declared.PixelFormat.{PixelFormat}
use Rattle.tiles.specs.Flip.{flip}
use Rattle.regs.specs.Background.{SCREEN_BLOCK_SIZE, palette256, character_base_block, screen_base_block, size, char_block, screen_block}
use Rattle.regs.specs.Background.{regular_width, regular_height, tile_format}

-- X = (column + hofs) mod W.
abbrev pub regular_x : ℕ → ℕ → ℕ → ℕ
regular_x control hofs column = (column + hofs) % regular_width (size control)

-- Y = (line + vofs) mod H.
abbrev pub regular_y : ℕ → ℕ → ℕ → ℕ
regular_y control vofs line = (line + vofs) % regular_height (size control)

-- The map block is X/256 + (W/256)(Y/256).
abbrev pub map_block : ℕ → ℕ → ℕ → ℕ
map_block width x y = x / 256 + width / 256 * (y / 256)

-- The entry lies at 2((X/8 mod 32) + 32(Y/8 mod 32)) of its block.
abbrev pub map_offset : ℕ → ℕ → ℕ
map_offset x y = 2 * (x / 8 % 32 + 32 * (y / 8 % 32))

-- The map's entry, each block 0x800 bytes further from the screen base.
unfoldable pub map_entry : List ℕ → ℕ → ℕ → ℕ → ℕ → ℕ
map_entry vram screen width x y = half vram (screen + SCREEN_BLOCK_SIZE * map_block width x y + map_offset x y)

-- Entry: tile bits 9-0.
abbrev pub tile_index : ℕ → ℕ
tile_index entry = bits 9 0 entry

-- Entry: bit 10 flips left and right.
abbrev pub x_flip : ℕ → Bool
x_flip entry = bit 10 entry

-- Entry: bit 11 flips up and down.
abbrev pub y_flip : ℕ → Bool
y_flip entry = bit 11 entry

-- Entry: bank 15-12.
abbrev pub entry_bank : ℕ → ℕ
entry_bank entry = bits 15 12 entry

-- The colour of a pixel of the tile at addr, from a bank of the palette.
abbrev pub tile_color : List ℕ → List ℕ → ℕ → ℕ → ℕ → PixelFormat → ℕ → ℕ
tile_color vram palette addr x y format bank = palette_color palette 0 (tile_pixel vram addr x y format) bank

-- The colour at column x and row y of what an entry shows, its tiles counted from the tile base.
unfoldable pub entry_color : List ℕ → List ℕ → ℕ → PixelFormat → ℕ → ℕ → ℕ → ℕ
entry_color vram palette tiles format entry x y =
    tile_color vram palette
    (tiles + tile_index entry * tile_size format)
    (flip (x_flip entry) 8 x)
    (flip (y_flip entry) 8 y)
    format
    (palette_bank format (entry_bank entry))

-- The colour at X and Y of a regular background.
unfoldable pub regular_pixel : List ℕ → List ℕ → ℕ → ℕ → ℕ → ℕ
regular_pixel vram palette control x y =
    entry_color vram palette
    (char_block (character_base_block control))
    (tile_format (palette256 control))
    (map_entry vram (screen_block (screen_base_block control)) (regular_width (size control)) x y)
    (x % 8)
    (y % 8)

-- The colour of a regular background at a column and line.
unfoldable pub regular_color : List ℕ → List ℕ → ℕ → ℕ → ℕ → ℕ → ℕ → ℕ
regular_color vram palette control hofs vofs column line =
    regular_pixel vram palette control (regular_x control hofs column) (regular_y control vofs line)

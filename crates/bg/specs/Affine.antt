-- Affine backgrounds (01, "Backgrounds", its second paragraph; GBATEK, "LCD I/O BG Control", "LCD I/O BG Rotation/Scaling",
-- "LCD VRAM Overview, Character Data, BG Screen Data Format"). The line counts through the reference numbers.
-- Assumes nothing.
use Rattle.std.specs.Prelude.{ℕ, ◌+◌, ◌*◌, ◌/◌, ◌%◌, ◌^◌, List, ℤ}
use Rattle.memory.specs.Memory.{byte}
use Rattle.memory.specs.declared.PixelFormat.TheVariants.{BPP8}
use Rattle.regs.specs.Background.{character_base_block, screen_base_block, affine_wraparound, size, char_block, screen_block}
use Rattle.bg_points.specs.Point.{transform_bg_point, point_color}
use Rattle.bg_regular.specs.Regular.{tile_color}

-- The square has sides of 128 * 2^size (LCD I/O BG Control).
abbrev pub affine_side : ℕ → ℕ
affine_side size = 128 * 2 ^ size

-- The map has one byte a tile (BG Screen Data Format).
abbrev pub affine_tile : List ℕ → ℕ → ℕ → ℕ → ℕ → ℕ
affine_tile vram screen side x y = byte vram (screen + x / 8 + side / 8 * (y / 8))

-- The colour at a pixel of the square: 64-byte tiles (Character Data).
unfoldable pub affine_pixel : List ℕ → List ℕ → ℕ → ℕ → ℕ → ℕ → ℕ → ℕ
affine_pixel vram palette screen tiles side x y =
    tile_color vram palette (tiles + 0x40 * affine_tile vram screen side x y) (x % 8) (y % 8) BPP8 0

-- The colour of an affine background at a column, by its references x and y and its steps pa and pc (LCD I/O BG Rotation/Scaling).
unfoldable pub affine_bg_color : List ℕ → List ℕ → ℕ → ℤ → ℤ → ℕ → ℕ → ℕ → ℕ
affine_bg_color vram palette control x y pa pc column =
    point_color (affine_wraparound control) (affine_side (size control)) (affine_side (size control))
    (affine_pixel vram palette (screen_block (screen_base_block control)) (char_block (character_base_block control)) (affine_side (size control)))
    (transform_bg_point x pa column)
    (transform_bg_point y pc column)

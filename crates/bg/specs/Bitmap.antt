-- Bitmaps, background 2 of modes 3 to 5 (01, "Backgrounds", its third paragraph; GBATEK, "LCD I/O Display Control",
-- "LCD VRAM Overview, Character Data, BG Screen Data Format"). The line counts through the reference numbers.
-- Assumes nothing.
use Rattle.std.specs.Prelude.{ℕ, ◌+◌, ◌*◌, cond, List, eqb, ℤ}
use Rattle.memory.specs.Memory.{byte, half}
use Rattle.memory.specs.Palette.{palette_color}
use Rattle.regs.specs.Background.{affine_wraparound}
use Rattle.bg_points.specs.Point.{transform_bg_point, point_color}

-- 3 and 4 are 240 wide, 5 is 160 (LCD I/O Display Control).
abbrev pub bitmap_width : ℕ → ℕ
bitmap_width mode = cond (eqb mode 5) 160 240

-- 3 and 4 are 160 high, 5 is 128 (LCD I/O Display Control).
abbrev pub bitmap_height : ℕ → ℕ
bitmap_height mode = cond (eqb mode 5) 128 160

-- Modes 4 and 5 start at 0xa000 when the frame bit is set (LCD VRAM Overview).
abbrev pub bitmap_start : ℕ → ℕ → ℕ
bitmap_start mode frame = cond (eqb mode 3) 0 (frame * 0xa000)

-- Mode 3 and 5 words are taken whole; mode 4 has one byte a pixel, through the palette (LCD I/O Display Control).
unfoldable pub bitmap_pixel : List ℕ → List ℕ → ℕ → ℕ → ℕ → ℕ → ℕ → ℕ
bitmap_pixel vram palette mode start width x y =
    cond (eqb mode 4)
    (palette_color palette 0 (byte vram (start + (x + width * y))) 0)
    (half vram (start + 2 * (x + width * y)))

-- The colour of a bitmap at a column, with the same point rule (LCD I/O BG Rotation/Scaling).
unfoldable pub bitmap_color : List ℕ → List ℕ → ℕ → ℕ → ℕ → ℤ → ℤ → ℕ → ℕ → ℕ → ℕ
bitmap_color vram palette mode frame control x y pa pc column =
    point_color (affine_wraparound control) (bitmap_width mode) (bitmap_height mode)
    (bitmap_pixel vram palette mode (bitmap_start mode frame) (bitmap_width mode))
    (transform_bg_point x pa column)
    (transform_bg_point y pc column)

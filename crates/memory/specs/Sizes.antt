-- Sizes of the lent buffers and of the screen (01, "What one draw takes and gives"; GBATEK, "LCD VRAM Overview",
-- "LCD Dimensions and Timings"). Assumes nothing.
use Rattle.std.specs.Prelude.{ℕ}

-- Video memory has 131,072 bytes.
abbrev pub video_ram_size : ℕ
video_ram_size = 0x20000

-- The palette has 1,024 bytes.
abbrev pub palette_ram_size : ℕ
palette_ram_size = 0x400

-- OAM has 1,024 bytes.
abbrev pub oam_size : ℕ
oam_size = 0x400

-- The registers have 86 bytes, I/O offsets 0x00 to 0x55.
abbrev pub registers_size : ℕ
registers_size = 0x56

-- A line has 240 pixels (LCD Dimensions and Timings).
abbrev pub display_width : ℕ
display_width = 240

-- The screen has 160 lines (LCD Dimensions and Timings).
abbrev pub display_height : ℕ
display_height = 160

-- The output has 960 bytes, 240 of 4.
abbrev pub output_size : ℕ
output_size = 960

-- Tiles of both pixel formats (01, "Backgrounds"; GBATEK, "LCD VRAM Overview, Character Data, BG Screen Data Format").
-- Assumes nothing.
use Rattle.std.specs.Prelude.{ℕ, ◌+◌, ◌*◌, ◌/◌, ◌%◌, cond, List, eqb}
use Rattle.bits.specs.Bits.{bits}
use Rattle.memory.specs.Memory.{byte}
use Rattle.memory.specs.declared.PixelFormat.{PixelFormat}
use Rattle.memory.specs.declared.PixelFormat.TheVariants.{BPP4, BPP8}

-- A tile is 32 bytes or 64 (Character Data).
abbrev pub tile_size : PixelFormat → ℕ
tile_size BPP4 = 0x20
tile_size BPP8 = 0x40

-- A pixel has 4 bits or 8, so it is one of 16 colours or of 256 (Character Data).
abbrev pub colours : PixelFormat → ℕ
colours BPP4 = 16
colours BPP8 = 256

-- The bank counts for 16 colours only (BG Screen Data Format); for 256 it is 0 (DECISIONS, 2).
abbrev pub palette_bank : PixelFormat → ℕ → ℕ
palette_bank BPP4 bank = bank
palette_bank BPP8 bank = 0

-- Of the two pixels of a byte, the even one is in the low half (Character Data).
abbrev pub half_of : ℕ → ℕ → ℕ
half_of pair x = cond (eqb (x % 2) 0) (bits 3 0 pair) (bits 7 4 pair)

-- The pixel at column x and row y of the tile at addr: a row is four bytes of two pixels, or eight of one (Character Data).
unfoldable pub tile_pixel : List ℕ → ℕ → ℕ → ℕ → PixelFormat → ℕ
tile_pixel vram addr x y BPP4 = half_of (byte vram (addr + 4 * y + x / 2)) x
tile_pixel vram addr x y BPP8 = byte vram (addr + 8 * y + x)

-- Background control, by its word (01, "Backgrounds"; GBATEK, "LCD I/O BG Control"). Assumes nothing.
use Rattle.std.specs.Prelude.{ℕ, ◌+◌, ◌*◌, ◌≡◌, Bool, true, false}
use Rattle.bits.specs.Bits.{bits, bit}
use Rattle.memory.specs.declared.PixelFormat.{PixelFormat}
use Rattle.memory.specs.declared.PixelFormat.TheVariants.{BPP4, BPP8}
use Rattle.regs.specs.declared.BgControl.{BgControl}
use Rattle.regs.specs.declared.BgSize.{BgSize}

-- The priority is bits 0-1 (LCD I/O BG Control).
abbrev pub priority : ℕ → ℕ
priority w = bits 1 0 w

-- The tile base is bits 2-3 (LCD I/O BG Control).
abbrev pub character_base_block : ℕ → ℕ
character_base_block w = bits 3 2 w

-- Mosaic is bit 6 (LCD I/O BG Control).
abbrev pub mosaic : ℕ → Bool
mosaic w = bit 6 w

-- Bit 7: whether tiles have 256 colours (LCD I/O BG Control).
abbrev pub palette256 : ℕ → Bool
palette256 w = bit 7 w

-- The map base is bits 8-12 (LCD I/O BG Control).
abbrev pub screen_base_block : ℕ → ℕ
screen_base_block w = bits 12 8 w

-- The wrap bit is bit 13 (LCD I/O BG Control).
abbrev pub affine_wraparound : ℕ → Bool
affine_wraparound w = bit 13 w

-- The size is bits 14-15 (LCD I/O BG Control).
abbrev pub size : ℕ → ℕ
size w = bits 15 14 w

-- A background control is what its word says.
pub record BgControlOf (w : ℕ) (b : BgControl) : Type 0 where
  pub priority_is : b.priority ≡ priority w
  pub character_is : b.character_base_block ≡ character_base_block w
  pub mosaic_is : b.mosaic ≡ mosaic w
  pub palette256_is : b.palette256 ≡ palette256 w
  pub screen_is : b.screen_base_block ≡ screen_base_block w
  pub wraparound_is : b.affine_wraparound ≡ affine_wraparound w
  pub size_is : b.size ≡ size w

-- Where a tile base lies: they are 0x4000 bytes apart (LCD I/O BG Control).
abbrev pub char_block : ℕ → ℕ
char_block block = block * 0x4000

-- Map bases lie 0x800 bytes apart (LCD I/O BG Control).
abbrev pub SCREEN_BLOCK_SIZE : ℕ
SCREEN_BLOCK_SIZE = 0x800

-- Where a map base lies (LCD I/O BG Control).
abbrev pub screen_block : ℕ → ℕ
screen_block block = block * SCREEN_BLOCK_SIZE

-- Sizes 0 to 3 are 256, 512, 256 and 512 wide (LCD I/O BG Control).
abbrev pub regular_width : ℕ → ℕ
regular_width size = 256 + bits 0 0 size * 256

-- Sizes 0 to 3 are 256, 256, 512 and 512 high (LCD I/O BG Control).
abbrev pub regular_height : ℕ → ℕ
regular_height size = 256 + bits 1 1 size * 256

-- A regular background's width and height are those of its size.
pub record RegularSize (size : ℕ) (r : BgSize) : Type 0 where
  pub width_is : r.width ≡ regular_width size
  pub height_is : r.height ≡ regular_height size

-- The format by its bit: 0 is 16 colours, 1 is 256 (LCD I/O BG Control).
abbrev pub tile_format : Bool → PixelFormat
tile_format false = BPP4
tile_format true = BPP8

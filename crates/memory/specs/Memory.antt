-- The lent memory, its bytes and its halfwords (01, "What one draw takes and gives"; GBATEK, "LCD VRAM Overview").
-- Assumes nothing.
use Rattle.std.specs.Prelude.{ℕ, ◌+◌, ◌*◌, ◌≡◌, Bool, ◌&&◌, List, eqb, length, get_or}
use Rattle.memory.specs.Sizes.{video_ram_size, palette_ram_size, oam_size, registers_size}

-- The four buffers that a draw reads, each as its bytes.
pub record Memory : Type 0 where
  pub vram : List ℕ
  pub palette : List ℕ
  pub oam : List ℕ
  pub registers : List ℕ

-- The memory in the order in which it is lent.
abbrev pub memory_from : List ℕ → List ℕ → List ℕ → List ℕ → Memory
memory_from vram palette oam registers = record { vram = vram; palette = palette; oam = oam; registers = registers }

-- Whether each buffer of the memory has its length.
abbrev pub memory_lengths : Memory → Bool
memory_lengths m =
    eqb (length m.vram) video_ram_size
    && eqb (length m.palette) palette_ram_size
    && eqb (length m.oam) oam_size
    && eqb (length m.registers) registers_size

-- Each buffer of the memory has its length.
pub record MemoryLengths (m : Memory) : Type 0 where
  pub vram_is : length m.vram ≡ video_ram_size
  pub palette_is : length m.palette ≡ palette_ram_size
  pub oam_is : length m.oam ≡ oam_size
  pub registers_is : length m.registers ≡ registers_size

-- The byte at an offset.
abbrev pub byte : List ℕ → ℕ → ℕ
byte bytes at = get_or bytes at 0

-- The halfword at an offset, little-endian.
unfoldable pub half : List ℕ → ℕ → ℕ
half bytes at = byte bytes at + 0x100 * byte bytes (at + 1)

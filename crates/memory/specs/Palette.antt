-- Palette lookup (01, "Backgrounds"; GBATEK, "LCD Color Palettes"). Assumes nothing.
use Rattle.std.specs.Prelude.{ℕ, ◌+◌, ◌*◌, cond, List, eqb}
use Rattle.bits.specs.Bits.{bits}
use Rattle.rgb15.specs.Colour.{transparent}
use Rattle.memory.specs.Memory.{half}

-- The sprites' half of the palette starts at 0x200 (LCD Color Palettes).
abbrev pub PALRAM_OFS_FG : ℕ
PALRAM_OFS_FG = 0x200

-- Index 0 is transparent; else the halfword at 2 * index + 32 * bank (plus the offset for sprites), bit 15 cleared
-- (LCD Color Palettes).
unfoldable pub palette_color : List ℕ → ℕ → ℕ → ℕ → ℕ
palette_color palette offset index bank =
    cond (eqb index 0)
    transparent
    (bits 14 0 (half palette (offset + 2 * index + 32 * bank)))

-- The backdrop is halfword 0, taken whole (LCD Color Palettes).
abbrev pub backdrop : List ℕ → ℕ
backdrop palette = half palette 0

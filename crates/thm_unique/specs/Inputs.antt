-- The inputs on which the useless programs fail (01, "How tight the contracts are", "What one draw takes and gives").
-- No public contract cites this file. Assumes nothing.
use Rattle.std.specs.Prelude.{ℕ, ◌*◌, ◌%◌, cond, List, eqb, pos}
use Rattle.rows.specs.Tab.{tab}
use Rattle.memory.specs.Sizes.{video_ram_size, palette_ram_size, oam_size, registers_size, output_size}
use Rattle.gpu_judge.specs.Judge.{Call, call_of}

-- A buffer of zeros.
abbrev pub zeros : ℕ → List ℕ
zeros size = tab (λ _. 0) size

-- A buffer of zeros but for the byte at an offset.
abbrev pub single : ℕ → ℕ → ℕ → List ℕ
single size at byte = tab (λ k. cond (eqb k at) byte 0) size

-- OAM of zeros but for byte 5 of each 8: 128 sprites of 8x8 in the corner, all with tile 0 and priority p.
abbrev pub corner_sprites : ℕ → List ℕ
corner_sprites p = tab (λ k. cond (eqb (k % 8) 5) (4 * p) 0) oam_size

-- A draw of line 0 under R, with the reference numbers 0.
abbrev pub first_line : List ℕ → List ℕ → List ℕ → List ℕ → Call
first_line vram palette oam registers = call_of 0 0 (record { x2 = pos 0; y2 = pos 0; x3 = pos 0; y3 = pos 0 }) vram palette oam registers

-- Mode 0 with nothing on and a black backdrop.
abbrev pub dark : Call
dark = first_line (zeros video_ram_size) (zeros palette_ram_size) (zeros oam_size) (zeros registers_size)

-- The same with a red backdrop.
abbrev pub lit : Call
lit = first_line (zeros video_ram_size) (single palette_ram_size 0 31) (zeros oam_size) (zeros registers_size)

-- Sprites on, all 128 of them with a red pixel of priority p at column 0.
abbrev pub covered : ℕ → Call
covered p =
    first_line
    (single video_ram_size 0x10000 1)
    (single palette_ram_size 0x202 31)
    (corner_sprites p)
    (single registers_size 1 0x10)

-- The output that is lent.
abbrev pub lent : List ℕ
lent = zeros output_size

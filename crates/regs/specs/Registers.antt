-- Where each register lies in the lent bytes (01, "What one draw takes and gives"; GBATEK, "LCD I/O Display Control" to
-- "LCD I/O Color Special Effects", which give the offsets). Assumes nothing.
use Rattle.std.specs.Prelude.{ℕ, ◌+◌, ◌-◌, ◌*◌, List}
use Rattle.bits.specs.Bits.{bits}
use Rattle.memory.specs.Memory.{half}

-- The offsets, named as GBATEK names the registers.
abbrev pub DISPCNT : ℕ
DISPCNT = 0x00

abbrev pub BG0CNT : ℕ
BG0CNT = 0x08

abbrev pub BG0HOFS : ℕ
BG0HOFS = 0x10

abbrev pub BG0VOFS : ℕ
BG0VOFS = 0x12

abbrev pub BG2PA : ℕ
BG2PA = 0x20

abbrev pub BG2PC : ℕ
BG2PC = 0x24

abbrev pub WIN0H : ℕ
WIN0H = 0x40

abbrev pub WIN1H : ℕ
WIN1H = 0x42

abbrev pub WIN0V : ℕ
WIN0V = 0x44

abbrev pub WIN1V : ℕ
WIN1V = 0x46

abbrev pub WININ : ℕ
WININ = 0x48

abbrev pub WINOUT : ℕ
WINOUT = 0x4a

abbrev pub BLDCNT : ℕ
BLDCNT = 0x50

abbrev pub BLDALPHA : ℕ
BLDALPHA = 0x52

abbrev pub BLDY : ℕ
BLDY = 0x54

-- Display control (LCD I/O Display Control).
abbrev pub dispcnt : List ℕ → ℕ
dispcnt registers = half registers DISPCNT

-- The control of a background, 2 bytes each (LCD I/O BG Control).
abbrev pub bgcnt : List ℕ → ℕ → ℕ
bgcnt registers bg = half registers (BG0CNT + 2 * bg)

-- The horizontal offset of a background, 4 bytes each, of which bits 0-8 count (LCD I/O BG Scrolling).
abbrev pub hofs : List ℕ → ℕ → ℕ
hofs registers bg = bits 8 0 (half registers (BG0HOFS + 4 * bg))

-- The vertical offset of a background, 4 bytes each, of which bits 0-8 count (LCD I/O BG Scrolling).
abbrev pub vofs : List ℕ → ℕ → ℕ
vofs registers bg = bits 8 0 (half registers (BG0VOFS + 4 * bg))

-- What a column adds to x, as its word; background 3 is 0x10 higher (LCD I/O BG Rotation/Scaling).
abbrev pub pa : List ℕ → ℕ → ℕ
pa registers bg = half registers (BG2PA + 0x10 * (bg - 2))

-- What a column adds to y, as its word (LCD I/O BG Rotation/Scaling).
abbrev pub pc : List ℕ → ℕ → ℕ
pc registers bg = half registers (BG2PC + 0x10 * (bg - 2))

-- Window 0's columns (LCD I/O Window Feature).
abbrev pub win0h : List ℕ → ℕ
win0h registers = half registers WIN0H

-- Window 1's columns (LCD I/O Window Feature).
abbrev pub win1h : List ℕ → ℕ
win1h registers = half registers WIN1H

-- Window 0's rows (LCD I/O Window Feature).
abbrev pub win0v : List ℕ → ℕ
win0v registers = half registers WIN0V

-- Window 1's rows (LCD I/O Window Feature).
abbrev pub win1v : List ℕ → ℕ
win1v registers = half registers WIN1V

-- What window 0 permits is bits 0-5 of WININ (LCD I/O Window Feature).
abbrev pub win0_flags : List ℕ → ℕ
win0_flags registers = bits 5 0 (half registers WININ)

-- What window 1 permits is bits 8-13 of WININ (LCD I/O Window Feature).
abbrev pub win1_flags : List ℕ → ℕ
win1_flags registers = bits 13 8 (half registers WININ)

-- What is permitted outside is bits 0-5 of WINOUT (LCD I/O Window Feature).
abbrev pub winout_flags : List ℕ → ℕ
winout_flags registers = bits 5 0 (half registers WINOUT)

-- What the object window permits is bits 8-13 of WINOUT (LCD I/O Window Feature).
abbrev pub winobj_flags : List ℕ → ℕ
winobj_flags registers = bits 13 8 (half registers WINOUT)

-- Blend control (LCD I/O Color Special Effects).
abbrev pub bldcnt : List ℕ → ℕ
bldcnt registers = half registers BLDCNT

-- The weights of a blend (LCD I/O Color Special Effects).
abbrev pub bldalpha : List ℕ → ℕ
bldalpha registers = half registers BLDALPHA

-- EVY, the weight of white and black, is bits 0-4 of BLDY (LCD I/O Color Special Effects).
abbrev pub bldy : List ℕ → ℕ
bldy registers = bits 4 0 (half registers BLDY)

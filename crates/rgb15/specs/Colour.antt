-- Colours, each as its word (01, "Windows and blending"; GBATEK, "LCD Color Palettes", "LCD I/O Color Special Effects").
-- Assumes nothing.
use Rattle.std.specs.Prelude.{ℕ, ◌+◌, ◌*◌, ◌/◌, ◌^◌, min, Bool, eqb}
use Rattle.bits.specs.Bits.{bits}
use Rattle.rgb15.specs.declared.Rgb15.{Rgb15}

-- The colour of a word, for contracts over arrays of colours.
abbrev pub rgb : ℕ → Rgb15
rgb word = record { 0 = word }

-- r is bits 4-0 (LCD Color Palettes).
abbrev pub red : ℕ → ℕ
red colour = bits 4 0 colour

-- g is bits 9-5 (LCD Color Palettes).
abbrev pub green : ℕ → ℕ
green colour = bits 9 5 colour

-- b is bits 14-10 (LCD Color Palettes).
abbrev pub blue : ℕ → ℕ
blue colour = bits 14 10 colour

-- Black has every channel at 0.
abbrev pub black : ℕ
black = 0

-- White has every channel at 31.
abbrev pub white : ℕ
white = 0x7fff

-- Transparent is the one word that shows what lies below.
abbrev pub transparent : ℕ
transparent = 0x8000

-- Output is r * 2^19 + g * 2^11 + b * 2^3.
abbrev pub to_rgb24 : ℕ → ℕ
to_rgb24 colour = red colour * 2 ^ 19 + green colour * 2 ^ 11 + blue colour * 2 ^ 3

-- Of three channels the low five bits make a colour, with bit 15 clear (LCD Color Palettes).
abbrev pub from_rgb : ℕ → ℕ → ℕ → ℕ
from_rgb r g b = bits 4 0 r + bits 4 0 g * 2 ^ 5 + bits 4 0 b * 2 ^ 10

-- Only exactly 0x8000 is transparent.
abbrev pub is_transparent : ℕ → Bool
is_transparent colour = eqb colour transparent

-- Each channel is min(31, (a * wa + b * wb) / 16 rounded down) (LCD I/O Color Special Effects).
unfoldable pub blend_channel : ℕ → ℕ → ℕ → ℕ → ℕ
blend_channel a b wa wb = min 31 ((a * wa + b * wb) / 16)

-- Two colours blend channel by channel (LCD I/O Color Special Effects).
unfoldable pub blend_with : ℕ → ℕ → ℕ → ℕ → ℕ
blend_with mine other wa wb =
    from_rgb
    (blend_channel (red mine) (red other) wa wb)
    (blend_channel (green mine) (green other) wa wb)
    (blend_channel (blue mine) (blue other) wa wb)

-- An effect by its number, and by what it multiplies the two colours (02, W-202; 01, "Windows and blending"; GBATEK, "LCD I/O
-- Color Special Effects"). Assumes nothing.
use Rattle.std.specs.Prelude.{ℕ, ◌-◌, List}
use Rattle.regs.specs.Registers.{bldalpha, bldy}
use Rattle.regs.specs.Reading.{counted}
use Rattle.regs.specs.declared.reading.Reading.{Reading}
use Rattle.regs_blend.specs.Blend.{eva, evb}
use Rattle.sfx_effects.specs.Effects.{Effect, none, sprite_blend, control_blend, brighten, darken}

-- 0 none, 1 sprite blend, 2 control blend, 3 white, 4 black.
abbrev pub effect_number : Effect → ℕ
effect_number none = 0
effect_number sprite_blend = 1
effect_number control_blend = 2
effect_number brighten = 3
effect_number darken = 4

-- What an effect multiplies the top's colour by: EVA as the reading counts it, 16 - EVY, or 16.
abbrev pub first_weight : Reading → List ℕ → Effect → ℕ
first_weight reading registers none = 16
first_weight reading registers sprite_blend = counted reading (eva (bldalpha registers))
first_weight reading registers control_blend = counted reading (eva (bldalpha registers))
first_weight reading registers brighten = 16 - counted reading (bldy registers)
first_weight reading registers darken = 16 - counted reading (bldy registers)

-- What it multiplies the other colour by: EVB or EVY as the reading counts them, or 0.
abbrev pub second_weight : Reading → List ℕ → Effect → ℕ
second_weight reading registers none = 0
second_weight reading registers sprite_blend = counted reading (evb (bldalpha registers))
second_weight reading registers control_blend = counted reading (evb (bldalpha registers))
second_weight reading registers brighten = counted reading (bldy registers)
second_weight reading registers darken = counted reading (bldy registers)

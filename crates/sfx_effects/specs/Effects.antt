-- Effects, and the colour that each makes of two layers (01, "Windows and blending", "Two readings"; GBATEK, "LCD I/O Color
-- Special Effects"). Assumes nothing.
use Rattle.std.specs.Prelude.{ℕ, ◌-◌, Bool, cond, ◌&&◌, List}
use Rattle.rgb15.specs.Colour.{blend_with, black, white}
use Rattle.regs.specs.Registers.{bldcnt, bldalpha, bldy}
use Rattle.regs_window.specs.Windows.{permits_effects}
use Rattle.regs_blend.specs.Layers.{targets}
use Rattle.regs_blend.specs.Blend.{target1, target2, blend_mode, eva, evb}
use Rattle.regs.specs.Reading.{counted}
use Rattle.regs_blend.specs.declared.BlendMode.{BlendMode}
use Rattle.regs_blend.specs.declared.BlendMode.TheVariants.{BldNone, BldAlpha, BldWhite, BldBlack}
use Rattle.regs.specs.declared.reading.Reading.{Reading}
use Rattle.sfx_layers.specs.Layers.{Pair, is_object}

-- What becomes of the top layer's colour.
pub data Effect : Type 0 where
  none : Effect
  sprite_blend : Effect
  control_blend : Effect
  brighten : Effect
  darken : Effect

-- The control's effect, by whether the bottom is a second target: its blend needs that, else the top shows as it is.
unfoldable pub control_effect : BlendMode → Bool → Effect
control_effect BldNone second = none
control_effect BldAlpha second = cond second control_blend none
control_effect BldWhite second = brighten
control_effect BldBlack second = darken

-- A semi-transparent object on top blends if the bottom is a second target, even where the window turns effects off;
-- otherwise the control's effect applies where permitted and the top is a first target.
unfoldable pub effect : List ℕ → ℕ → Bool → Pair → Effect
effect registers flags semi p =
    let control = bldcnt registers in
    let second = targets (target2 control) p.bottom.kind in
    cond ((is_object p.top.kind && semi) && second)
    sprite_blend
    (cond (permits_effects flags && targets (target1 control) p.top.kind)
    (control_effect (blend_mode control) second)
    none)

-- Top and bottom blended by EVA and EVB, as the reading counts them.
unfoldable pub alpha : Reading → List ℕ → ℕ → ℕ → ℕ
alpha reading registers top bottom =
    blend_with top bottom
    (counted reading (eva (bldalpha registers)))
    (counted reading (evb (bldalpha registers)))

-- White and black use weights 16 - evy and evy.
unfoldable pub fade : ℕ → ℕ → ℕ → ℕ
fade evy color toward = blend_with color toward (16 - evy) evy

-- The colour that an effect makes of the top's and the bottom's.
unfoldable pub effect_color : Reading → List ℕ → Effect → ℕ → ℕ → ℕ
effect_color reading registers none top bottom = top
effect_color reading registers sprite_blend top bottom = alpha reading registers top bottom
effect_color reading registers control_blend top bottom = alpha reading registers top bottom
effect_color reading registers brighten top bottom = fade (counted reading (bldy registers)) top white
effect_color reading registers darken top bottom = fade (counted reading (bldy registers)) top black

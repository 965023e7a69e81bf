-- As code has it: a column's effect as truth values and weights (01, "Windows and blending").
-- No exported contract reaches this file. Assumes nothing.
use Rattle.std.specs.Prelude.{ℕ, ◌-◌, ◌≡◌, Bool, true, false, cond, ◌&&◌, ◌||◌, List}
use Rattle.bits.specs.Bits.{bit}
use Rattle.rgb15.specs.Colour.{white, black, blend_with}
use Rattle.regs.specs.Registers.{bldalpha, bldy}
use Rattle.regs.specs.Reading.{counted}
use Rattle.regs.specs.declared.reading.Reading.{Reading}
use Rattle.regs_blend.specs.Blend.{eva, evb}
use Rattle.regs_blend.specs.declared.BlendMode.{BlendMode}
use Rattle.regs_blend.specs.declared.BlendMode.TheVariants.{BldNone, BldAlpha, BldWhite, BldBlack}
use Rattle.sfx_layers.specs.Code.{first_bit, second_bit, semi_bit}
use Rattle.sfx_layers.specs.declared.layer.LayerPair.{LayerPair}
use Rattle.sfx_effects.specs.declared.weights.Weights.{Weights}

-- ---- effects

-- Whether the control's effect is a blend.
abbrev pub blends : BlendMode → Bool
blends BldNone = false
blends BldAlpha = true
blends BldWhite = false
blends BldBlack = false

-- Whether two layers are blended, by the control's effect and whether effects are permitted.
unfoldable pub is_blended : BlendMode → Bool → LayerPair → Bool
is_blended mode permitted p =
    bit second_bit p.bottom_tag && (bit semi_bit p.top_tag || ((permitted && bit first_bit p.top_tag) && blends mode))

-- Whether the control's effect is white or black.
abbrev pub fades : BlendMode → Bool
fades BldNone = false
fades BldAlpha = false
fades BldWhite = true
fades BldBlack = true

-- Whether a top that isn't blended is made white or black, by its tag.
unfoldable pub is_faded : BlendMode → Bool → ℕ → Bool
is_faded mode permitted tag = (permitted && bit first_bit tag) && fades mode

-- ---- colours

-- A line's weights are those of its registers, as the reading counts them.
pub record WeightsOf (reading : Reading) (registers : List ℕ) (w : Weights) : Type 0 where
  pub eva_is : w.eva ≡ counted reading (eva (bldalpha registers))
  pub evb_is : w.evb ≡ counted reading (evb (bldalpha registers))
  pub evy_is : w.evy ≡ counted reading (bldy registers)

-- The colour that such a top is blended with, by the control's effect.
abbrev pub fade_color : BlendMode → ℕ
fade_color BldNone = black
fade_color BldAlpha = black
fade_color BldWhite = white
fade_color BldBlack = black

-- The weight of that colour: with 0 the top shows as it is.
unfoldable pub fade_weight : Weights → BlendMode → Bool → ℕ → ℕ
fade_weight w mode permitted tag = cond (is_faded mode permitted tag) w.evy 0

-- The colour of two layers, one blend for all effects; where they may not be blended the bottom doesn't count.
unfoldable pub pair_color : Bool → Weights → BlendMode → Bool → LayerPair → ℕ
pair_color may w mode permitted p =
    let blended = may && is_blended mode permitted p in
    let evy = fade_weight w mode permitted p.top_tag in
    blend_with p.top (cond blended p.bottom (fade_color mode)) (cond blended w.eva (16 - evy)) (cond blended w.evb evy)

-- As code has it: an effect as an enum, the kinds of two layers, and two weights (02, W-202).
-- No exported contract reaches this file. Assumes nothing.
use Rattle.std.specs.Prelude.{ℕ, ◌≤◌, ◌≡◌, List}
use Rattle.rgb15.specs.Colour.{black, white, blend_with}
use Rattle.regs.specs.declared.reading.Reading.{Reading}
use Rattle.regs_blend.specs.declared.layer.RenderLayerKind.{RenderLayerKind}
use Rattle.sfx_layers.specs.Layers.{Pair}
use Rattle.sfx_effects.specs.Effects as Effects
use Rattle.explain_effects.specs.Weights.{first_weight, second_weight}
use Rattle.explain_effects.specs.declared.Effect.{Effect}
use Rattle.explain_effects.specs.declared.EffectWeights.{EffectWeights}

-- The effect of a name.
abbrev pub effect_of : Effect → Effects.Effect
effect_of Effect.None = Effects.none
effect_of Effect.SpriteBlend = Effects.sprite_blend
effect_of Effect.ControlBlend = Effects.control_blend
effect_of Effect.White = Effects.brighten
effect_of Effect.Black = Effects.darken

-- Two layers of these kinds; an effect asks for nothing else of them.
abbrev pub pair_of : RenderLayerKind → RenderLayerKind → Pair
pair_of top bottom =
    record { top = record { kind = top; priority = 0; color = 0 }; bottom = record { kind = bottom; priority = 0; color = 0 } }

-- Weights are those of an effect, and small enough for a blend.
pub record EffectWeightsOf (reading : Reading) (registers : List ℕ) (k : Effects.Effect) (w : EffectWeights) : Type 0 where
  pub first_is : w.first ≡ first_weight reading registers k
  pub second_is : w.second ≡ second_weight reading registers k
  pub first≤ : w.first ≤ 31
  pub second≤ : w.second ≤ 31

-- The other colour: the bottom's, white, black; with no effect any serves, since its weight is 0.
abbrev pub other_color : Effects.Effect → ℕ → ℕ
other_color Effects.none bottom = black
other_color Effects.sprite_blend bottom = bottom
other_color Effects.control_blend bottom = bottom
other_color Effects.brighten bottom = white
other_color Effects.darken bottom = black

-- The colour of two by an effect and its weights.
abbrev pub weighed_color : Effects.Effect → EffectWeights → ℕ → ℕ → ℕ
weighed_color k w top bottom = blend_with top (other_color k bottom) w.first w.second

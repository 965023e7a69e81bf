-- The weights of an effect, and the colour by them. No contract cites this file. Assumes nothing.
use Prim.Native.Nat.{ℕ, ◌-◌}
use native.Mathlib.Omega.{arith}
use mathlib.Core.Path.{◌≡◌, refl, ap}
use mathlib.Core.List.{List}
use Rattle.rgb15.specs.Colour.{to_rgb24, blend_with, black}
use Rattle.rgb15.proofs.Laws.{to_rgb24-blend_with_first}
use Rattle.regs.specs.declared.reading.Reading.{Reading}
use Rattle.sfx_effects.specs.Effects.{Effect, none, sprite_blend, control_blend, brighten, darken, alpha, fade, effect_color}
use Rattle.sfx_effects.specs.Code.{WeightsOf}
use Rattle.sfx_effects.specs.declared.weights.Weights.{Weights}
use Rattle.explain_effects.specs.Code.{other_color, EffectWeightsOf}
use Rattle.explain_effects.specs.Weights.{first_weight, second_weight}

-- ---- the weights, of a line's

module _ {reading : Reading} {registers : List ℕ} {w : Weights} (w_is : WeightsOf reading registers w) where
  pub weights_blend : EffectWeightsOf reading registers control_blend (record { first = w.eva; second = w.evb })
  weights_blend =
      record {
        first_is = w_is.eva_is;
        second_is = w_is.evb_is;
        first≤ = w.eva_bound;
        second≤ = w.evb_bound;
      }

  pub weights-fade : EffectWeightsOf reading registers brighten (record { first = 16 - w.evy; second = w.evy })
  weights-fade =
      record {
        first_is = ap (λ evy. 16 - evy) w_is.evy_is;
        second_is = w_is.evy_is;
        first≤ = omega arith;
        second≤ = omega (arith, w.evy_bound);
      }

-- ---- the colour

-- The top and the other colour, each by its weight, show the effect's colour.
pub weighed-color : (reading : Reading) (registers : List ℕ) (k : Effect) (top bottom : ℕ)
    → to_rgb24 (blend_with top (other_color k bottom) (first_weight reading registers k) (second_weight reading registers k))
    ≡ to_rgb24 (effect_color reading registers k top bottom)
unfolding effect_color alpha fade
weighed-color reading registers none top bottom = to_rgb24-blend_with_first top black
weighed-color reading registers sprite_blend top bottom = refl
weighed-color reading registers control_blend top bottom = refl
weighed-color reading registers brighten top bottom = refl
weighed-color reading registers darken top bottom = refl

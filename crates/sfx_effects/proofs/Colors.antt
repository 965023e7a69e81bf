-- Laws of effects: the colour that code computes of two layers is that of their effect. No contract cites this file. Assumes
-- nothing.
use Prim.Native.Nat.{ℕ, ◌-◌}
use mathlib.Core.Path.{◌≡◌, ap, ap₂}
use mathlib.Core.Bool.{Bool, true, false, cond, ◌&&◌, ◌||◌, and-false}
use mathlib.Core.List.{List}
use Rattle.bits.specs.Bits.{bit}
use Rattle.rgb15.specs.Colour.{to_rgb24, blend_with}
use Rattle.rgb15.proofs.Laws.{to_rgb24-blend_with_first}
use Rattle.regs.specs.Registers.{bldcnt, bldy}
use Rattle.regs.specs.Reading.{counted}
use Rattle.regs.specs.declared.reading.Reading.{Reading}
use Rattle.regs_window.specs.Windows.{permits_effects}
use Rattle.regs_blend.specs.Layers.{targets}
use Rattle.regs_blend.specs.Blend.{target1, target2, blend_mode}
use Rattle.regs_blend.specs.declared.BlendMode.{BlendMode}
use Rattle.regs_blend.specs.declared.BlendMode.TheVariants.{BldNone, BldAlpha, BldWhite, BldBlack}
use Rattle.sfx_layers.specs.Layers.{Pair, is_object}
use Rattle.sfx_layers.specs.Code.{first_bit, second_bit, semi_bit}
use Rattle.sfx_layers.specs.declared.layer.LayerPair.{LayerPair}
use Rattle.sfx_layers.proofs.Columns.{pair_of}
use Rattle.sfx_layers.proofs.Tags.{tag-bits}
use Rattle.sfx_effects.specs.Effects.{none, sprite_blend, control_effect, effect, alpha, fade, effect_color}
use Rattle.sfx_effects.specs.Code.{blends, is_blended, fades, is_faded, fade_color, fade_weight, pair_color, WeightsOf}
use Rattle.sfx_effects.specs.declared.weights.Weights.{Weights}

-- The colour of two, by whether they are blended and whether the top is faded.
blended_color : Weights → BlendMode → ℕ → ℕ → Bool → Bool → ℕ
blended_color w mode top bottom blended faded =
    let evy = cond faded w.evy 0 in
    blend_with top (cond blended bottom (fade_color mode)) (cond blended w.eva (16 - evy)) (cond blended w.evb evy)

module _ (reading : Reading) (registers : List ℕ) (w : Weights) (w_is : WeightsOf reading registers w) (top bottom : ℕ) where
  alpha_color : (mode : BlendMode) (faded : Bool)
      → to_rgb24 (blended_color w mode top bottom true faded) ≡ to_rgb24 (alpha reading registers top bottom)
  unfolding blended_color alpha
  alpha_color mode faded = ap to_rgb24 (ap₂ (blend_with top bottom) w_is.eva_is w_is.evb_is)

  plain_color : (mode : BlendMode) → to_rgb24 (blended_color w mode top bottom false false) ≡ to_rgb24 top
  unfolding blended_color
  plain_color mode = to_rgb24-blend_with_first top (fade_color mode)

  fade-color : (mode : BlendMode)
      → to_rgb24 (blended_color w mode top bottom false true)
      ≡ to_rgb24 (fade (counted reading (bldy registers)) top (fade_color mode))
  unfolding blended_color fade
  fade-color mode = ap (λ y. to_rgb24 (blend_with top (fade_color mode) (16 - y) y)) w_is.evy_is

  -- The colour of each effect: semi is whether the top is a semi-transparent object, second whether the bottom is a second
  -- target, first whether the top is a first target that effects are permitted of.
  effect-color : (mode : BlendMode) (semi second first : Bool)
      → to_rgb24 (blended_color w mode top bottom (second && (semi || (first && blends mode))) (first && fades mode))
      ≡ to_rgb24
      (effect_color reading registers (cond (semi && second) sprite_blend (cond first (control_effect mode second) none))
      top bottom)
  unfolding effect_color control_effect
  effect-color mode true true first = alpha_color mode (first && fades mode)
  effect-color mode false second false = unlit second
    where
      unlit : (second : Bool) → to_rgb24 (blended_color w mode top bottom (second && false) false) ≡ to_rgb24 top
      unlit true = plain_color mode
      unlit false = plain_color mode
  effect-color mode true false false = plain_color mode
  effect-color BldNone true false true = plain_color BldNone
  effect-color BldNone false true true = plain_color BldNone
  effect-color BldNone false false true = plain_color BldNone
  effect-color BldAlpha true false true = plain_color BldAlpha
  effect-color BldAlpha false true true = alpha_color BldAlpha false
  effect-color BldAlpha false false true = plain_color BldAlpha
  effect-color BldWhite true false true = fade-color BldWhite
  effect-color BldWhite false true true = fade-color BldWhite
  effect-color BldWhite false false true = fade-color BldWhite
  effect-color BldBlack true false true = fade-color BldBlack
  effect-color BldBlack false true true = fade-color BldBlack
  effect-color BldBlack false false true = fade-color BldBlack

-- The colour of two layers is that of their effect; semi is whether the object is semi-transparent.
pub pair-color : (reading : Reading) (registers : List ℕ) (semi : Bool) (flags : ℕ) {w : Weights} (p : Pair)
    → WeightsOf reading registers w
    → to_rgb24 (pair_color true w (blend_mode (bldcnt registers)) (permits_effects flags) (pair_of registers semi p))
    ≡ to_rgb24 (effect_color reading registers (effect registers flags semi p) p.top.color p.bottom.color)
unfolding pair_color is_blended fade_weight is_faded effect pair_of blended_color
pair-color reading registers semi flags {w} p w_is =
    let control = bldcnt registers in
    let top = p.top in
    let bottom = p.bottom in
    let top-bits = tag-bits registers semi top in
    rw ((tag-bits registers semi bottom).second_is, top-bits.semi_is, top-bits.first_is)
    (effect-color reading registers w w_is top.color bottom.color (blend_mode control) (is_object top.kind && semi)
    (targets (target2 control) bottom.kind) (permits_effects flags && targets (target1 control) top.kind))

-- Without the mark on top and without the control's blend, the bottom doesn't count.
pub pair_color-top : (w : Weights) (mode : BlendMode) (permitted : Bool) (p : LayerPair)
    → blends mode ≡ false → bit semi_bit p.top_tag ≡ false
    → pair_color false w mode permitted p ≡ pair_color true w mode permitted p
unfolding pair_color is_blended
pair_color-top w mode permitted p other plain =
    rw (plain, other, and-false (permitted && bit first_bit p.top_tag), and-false (bit second_bit p.bottom_tag))

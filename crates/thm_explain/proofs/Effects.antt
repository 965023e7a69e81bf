-- The effect of a column is the one that fits, and no other does. No contract cites this file. Assumes nothing.
use Prim.Native.Nat.{ℕ}
use mathlib.Core.Path.{◌≡◌, refl}
use mathlib.Core.Bool.{Bool, true, false, cond}
use lib.Dec.{eqb}
use Rattle.regs.specs.Reading.{reading_of}
use Rattle.regs_blend.specs.Layers.{layer_bit}
use Rattle.regs_blend.specs.declared.BlendMode.{BlendMode}
use Rattle.regs_blend.specs.declared.BlendMode.TheVariants.{BldNone, BldAlpha, BldWhite, BldBlack}
use Rattle.regs_blend.specs.declared.layer.RenderLayerKind.{RenderLayerKind}
use Rattle.regs_blend.specs.declared.layer.RenderLayerKind.TheVariants.{
  Background0,
  Background1,
  Background2,
  Background3,
  Objects,
  Backdrop,
}
use Rattle.obj_entries.specs.Entry.{semi_mark}
use Rattle.sfx_layers.specs.Layers.{Pair, is_object}
use Rattle.sfx_effects.specs.Effects.{Effect, none, sprite_blend, control_blend, brighten, darken, control_effect, effect}
use Rattle.explain_effects.specs.Code.{other_color}
use Rattle.explain_effects.specs.Weights.{effect_number, first_weight, second_weight}
use Rattle.thm_explain.specs.Fits.{Column, registers_of, entry_of, is_second, blends_sprite, applies, control_mode}
use Rattle.thm_explain.specs.Fits.{HasEffect, sprite_blended, control_blended, whitened, blackened}
use Rattle.thm_explain.specs.Fits.{not_applied, no_effect, no_second, top_weight, other_weight, toward}

-- ---- which effect

is_object-bit : (kind : RenderLayerKind) → is_object kind ≡ eqb (layer_bit kind) 4
is_object-bit Background0 = refl
is_object-bit Background1 = refl
is_object-bit Background2 = refl
is_object-bit Background3 = refl
is_object-bit Objects = refl
is_object-bit Backdrop = refl

cond_same : (t : Bool) → cond t none none ≡ none
cond_same true = refl
cond_same false = refl

module _ (k : Column) (flags : ℕ) where
  module _ (top bottom : ℕ) where
    -- The effect by three tests and the control's mode.
    abbrev effect_by : Effect
    effect_by =
        cond (blends_sprite k top bottom) sprite_blend
        (cond (applies k flags top) (control_effect (control_mode k) (is_second k bottom)) none)

    pub effect_once : {n : ℕ} → HasEffect k flags top bottom n → n ≡ effect_number effect_by
    unfolding control_effect
    effect_once (sprite_blended s) = rw s
    effect_once (control_blended s a m-is t) = rw (s, a, m-is, t)
    effect_once (whitened s a m-is) = rw (s, a, m-is)
    effect_once (blackened s a m-is) = rw (s, a, m-is)
    effect_once (not_applied s a) = rw (s, a)
    effect_once (no_effect s m-is) = rw (s, m-is, cond_same (applies k flags top))
    effect_once (no_second s m-is t) = rw (s, m-is, t, cond_same (applies k flags top))

    effect_by_fits : HasEffect k flags top bottom (effect_number effect_by)
    unfolding control_effect
    effect_by_fits = go (blends_sprite k top bottom) (applies k flags top) (control_mode k) (is_second k bottom) refl refl refl refl
      where
        go : (sprite applied : Bool) (m : BlendMode) (second : Bool)
            → blends_sprite k top bottom ≡ sprite → applies k flags top ≡ applied → control_mode k ≡ m
            → is_second k bottom ≡ second
            → HasEffect k flags top bottom
            (effect_number (cond sprite sprite_blend (cond applied (control_effect m second) none)))
        go true applied m second s a m-is t = sprite_blended s
        go false false m second s a m-is t = not_applied s a
        go false true BldNone second s a m-is t = no_effect s m-is
        go false true BldAlpha true s a m-is t = control_blended s a m-is t
        go false true BldAlpha false s a m-is t = no_second s m-is t
        go false true BldWhite second s a m-is t = whitened s a m-is
        go false true BldBlack second s a m-is t = blackened s a m-is

  module _ (p : Pair) where
    -- The effect of two layers is that of their numbers.
    effect-by : effect (registers_of k) flags (semi_mark (entry_of k)) p
        ≡ effect_by (layer_bit p.top.kind) (layer_bit p.bottom.kind)
    unfolding effect
    effect-by = rw (is_object-bit p.top.kind)

    pub effect_fits : HasEffect k flags (layer_bit p.top.kind) (layer_bit p.bottom.kind)
        (effect_number (effect (registers_of k) flags (semi_mark (entry_of k)) p))
    effect_fits = rw effect-by (effect_by_fits (layer_bit p.top.kind) (layer_bit p.bottom.kind))

-- ---- its weights and its colour

module _ (k : Column) where
  pub top_weight-effect : (e : Effect)
      → first_weight (reading_of k.call.reading) (registers_of k) e ≡ top_weight k (effect_number e)
  top_weight-effect none = refl
  top_weight-effect sprite_blend = refl
  top_weight-effect control_blend = refl
  top_weight-effect brighten = refl
  top_weight-effect darken = refl

  pub other_weight-effect : (e : Effect)
      → second_weight (reading_of k.call.reading) (registers_of k) e ≡ other_weight k (effect_number e)
  other_weight-effect none = refl
  other_weight-effect sprite_blend = refl
  other_weight-effect control_blend = refl
  other_weight-effect brighten = refl
  other_weight-effect darken = refl

pub toward-effect : (e : Effect) (bottom : ℕ) → toward (effect_number e) bottom ≡ other_color e bottom
toward-effect none bottom = refl
toward-effect sprite_blend bottom = refl
toward-effect control_blend bottom = refl
toward-effect brighten bottom = refl
toward-effect darken bottom = refl

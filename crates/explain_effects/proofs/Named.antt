-- The effect of two layers, by what code's tests find. No contract cites this file. Assumes nothing.
use Prim.Native.Nat.{ℕ}
use mathlib.Core.Path.{◌≡◌, sym, ◌∙◌}
use mathlib.Core.Bool.{Bool, true, false, ◌&&◌}
use mathlib.Core.List.{List}
use Rattle.regs.specs.Registers.{bldcnt}
use Rattle.regs_window.specs.Windows.{permits_effects}
use Rattle.regs_blend.specs.Layers.{targets}
use Rattle.regs_blend.specs.Blend.{BlendControlOf}
use Rattle.regs_blend.specs.declared.BlendControl.{BlendControl}
use Rattle.regs_blend.specs.declared.layer.RenderLayerKind.{RenderLayerKind}
use Rattle.sfx_layers.specs.Layers.{is_object}
use Rattle.sfx_effects.specs.Effects as Effects
use Rattle.explain_effects.specs.Code.{effect_of, pair_of}
use Rattle.explain_effects.specs.declared.Effect.{Effect}

-- The premises are what the tests and calls that led to a return tell.
module _ (registers : List ℕ) (flags : ℕ) (semi : Bool) (top bottom : RenderLayerKind)
    {control : BlendControl} (control-is : BlendControlOf (bldcnt registers) control)
    {object second : Bool} (object_is : object ≡ is_object top) (second_is : second ≡ targets control.target2.0 bottom) where
  abbrev Gives : Effect → Type 0
  Gives k = effect_of k ≡ Effects.effect registers flags semi (pair_of top bottom)

  pub gives-sprite : ((object && semi) && second) ≡ true → Gives Effect.SpriteBlend
  unfolding Effects.effect
  gives-sprite on = rw (sym object_is, sym control-is.target2_is, sym second_is, on)

  module _ (off : ((object && semi) && second) ≡ false) {permitted first : Bool} (permitted-is : permitted ≡ permits_effects flags)
      (first_is : first ≡ targets control.target1.0 top) where
    pub gives_control : (k : Effect) → (permitted && first) ≡ true
        → effect_of k ≡ Effects.control_effect control.mode second → Gives k
    unfolding Effects.effect
    gives_control k on k-is =
        k-is
        ∙ rw (
          sym object_is,
          sym control-is.target2_is,
          sym second_is,
          off,
          sym permitted-is,
          sym control-is.target1_is,
          sym first_is,
          on,
          control-is.mode_is,
        )

    pub gives_none : (permitted && first) ≡ false → Gives Effect.None
    unfolding Effects.effect
    gives_none u =
        rw (
          sym object_is,
          sym control-is.target2_is,
          sym second_is,
          off,
          sym permitted-is,
          sym control-is.target1_is,
          sym first_is,
          u,
        )

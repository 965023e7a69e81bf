-- Laws of the colour at a point, both of whose coordinates are larger by a bias. No contract cites this file. Assumes nothing.
use Prim.Native.Nat.{ℕ, ◌+◌, ◌-◌, ◌≤◌, ◌<◌}
use mathlib.Core.Path.{◌≡◌, sym, ap, ap₂, ◌∙◌}
use mathlib.Core.Bool.{Bool, true, false, ◌&&◌}
use mathlib.Core.List.{List}
use lib.IntN.{sub_ℕ}
use Rattle.rgb15.specs.Colour.{transparent}
use Rattle.signed.specs.Signed.{within}
use Rattle.bits.proofs.Booleans.{and_both}
use Rattle.regs.specs.declared.ObjMapping.{ObjMapping}
use Rattle.regs.specs.declared.reading.Reading.{Reading}
use Rattle.obj_sprites.specs.Tiles.{texel}
use Rattle.obj_sprites.specs.Color.{color_at}
use Rattle.obj_sprites.specs.declared.attrs.ObjAttrs.{ObjAttrs}
use Rattle.obj_sprites.proofs.Places.{subℕ-above, within_bounds}

-- Both sides w and h are the sprite's, and each coordinate is worked out from one.
module _ (reading : Reading) (mapping : ObjMapping) (vram palette : List ℕ) (s : ObjAttrs) (x y bias : ℕ) {w h : ℕ} {a b : Bool}
    (w_is : w ≡ s.width) (h_is : h ≡ s.height)
    (a-is : a ≡ within (sub_ℕ x bias) w) (b-is : b ≡ within (sub_ℕ y bias) h) where
  tests : (a && b) ≡ (within (sub_ℕ x bias) s.width && within (sub_ℕ y bias) s.height)
  tests = ap₂ ◌&&◌ (a-is ∙ ap (within (sub_ℕ x bias)) w_is) (b-is ∙ ap (within (sub_ℕ y bias)) h_is)

  -- A point that passes both tests lies in the sprite.
  pub color_at_bounds : (a && b) ≡ true → ((bias ≤ x) × (x < bias + s.width)) × ((bias ≤ y) × (y < bias + s.height))
  color_at_bounds t =
      let both = and_both _ _ (sym tests ∙ t) in
      (within_bounds x bias s.width both.0, within_bounds y bias s.height both.1)

  module _ (p q : ℕ → ℕ) (x_is : x ≡ p w) (y_is : y ≡ q h) where
    pub color_at-inside : {color : ℕ} → (a && b) ≡ true
        → color ≡ texel reading mapping vram palette s (x - bias) (y - bias)
        → color ≡ color_at reading mapping vram palette s (sub_ℕ (p s.width) bias) (sub_ℕ (q s.height) bias)
    unfolding color_at
    color_at-inside t color_is =
        let bounds = color_at_bounds t in
        rw (
          sym (x_is ∙ ap p w_is),
          sym (y_is ∙ ap q h_is),
          sym tests ∙ t,
          subℕ-above x bias bounds.0.0,
          subℕ-above y bias bounds.1.0,
        )
        color_is

    -- Elsewhere there is no pixel.
    pub color_at_outside : (a && b) ≡ false
        → color_at reading mapping vram palette s (sub_ℕ (p s.width) bias) (sub_ℕ (q s.height) bias) ≡ transparent
    unfolding color_at
    color_at_outside t = rw (sym (x_is ∙ ap p w_is), sym (y_is ∙ ap q h_is), sym tests ∙ t)

-- Laws of the mark of a semi-transparent object: no tag of a background or the backdrop has it. No contract cites this file.
-- Assumes nothing.
use Prim.Native.Nat.{ℕ, ◌/◌, ◌%◌, ◌≤◌}
use native.Mathlib.Omega.{arith}
use mathlib.Core.Path.{◌≡◌, refl, ap, ◌∙◌}
use mathlib.Core.Bool.{Bool, true, false, cond}
use mathlib.Core.List.{List}
use lib.Dec.{eqb}
use Rattle.std.specs.Prelude.{Option, Some, None}
use Rattle.rgb15.specs.declared.Rgb15.{Rgb15}
use Rattle.rows.proofs.Tab.{get_or-of-tab}
use Rattle.bits.specs.Bits.{bit}
use Rattle.regs.specs.Registers.{bgcnt, bldcnt}
use Rattle.regs.specs.Background.{priority}
use Rattle.regs_blend.specs.Layers.{background_layer, targets}
use Rattle.regs_blend.specs.Blend.{target1, target2}
use Rattle.regs_blend.specs.declared.BlendMode.{BlendMode}
use Rattle.regs_blend.specs.declared.layer.RenderLayerKind.{RenderLayerKind}
use Rattle.regs_blend.specs.declared.layer.RenderLayerKind.TheVariants.{Objects}
use Rattle.sfx_layers.specs.Code.{line_color, layer_tag, semi_bit, place_tag, is_seen, goes_over, LineLayersOf, Unmarked}
use Rattle.sfx_layers.specs.Code.{put_background, background_pair, put_object, objects_bit, column_pair}
use Rattle.sfx_layers.specs.declared.layer.LineLayers.{LineLayers}
use Rattle.sfx_layers.proofs.Tags.{as_bit_bound}

-- ---- a line

layer_tag_plain : (first second priority : ℕ) (kind : RenderLayerKind) → bit semi_bit (layer_tag first second kind priority) ≡ false
unfolding layer_tag
layer_tag_plain first second priority kind =
    let e : layer_tag first second kind priority / 4 % 2 ≡ 0 =
    omega (arith, as_bit_bound (targets first kind), as_bit_bound (targets second kind)) in
    ap (λ n. eqb n 1) e

place_tag_plain : (registers : List ℕ) (first second : ℕ) (place : Option ℕ)
    → bit semi_bit (place_tag registers first second place) ≡ false
unfolding place_tag
place_tag_plain registers first second None = refl
place_tag_plain registers first second (Some bg) =
    layer_tag_plain first second (priority (bgcnt registers bg)) (background_layer bg)

module _ {palette registers : List ℕ} {at : List (Option ℕ)} {l : LineLayers BlendMode}
    (l-is : LineLayersOf palette registers at l) where
  pub unmarked : Unmarked l
  unmarked =
      record {
        places_plain = λ k k<.
            ap (bit semi_bit) (get_or-of-tab _ 4 k 0 l-is.places_are k<) ∙ place_tag_plain registers _ _ _;
        backdrop_plain = ap (bit semi_bit) l-is.backdrop_tag_is ∙ layer_tag_plain _ _ _ _;
      }

  -- The tag that all objects share has the two targets only.
  pub object_bound : l.object ≤ 3
  unfolding layer_tag
  object_bound =
      let first≤ = as_bit_bound (targets (target1 (bldcnt registers)) Objects) in
      let second≤ = as_bit_bound (targets (target2 (bldcnt registers)) Objects) in
      rw l-is.object_is (omega arith)

-- ---- a column

cond_plain : (t : Bool) (a b : ℕ) → bit semi_bit a ≡ false → bit semi_bit b ≡ false → bit semi_bit (cond t a b) ≡ false
cond_plain true a b a-plain b-plain = a-plain
cond_plain false a b a-plain b-plain = b-plain

module _ {M : Type 0} {line : LineLayers M} (unmarked-is : Unmarked line) (region : ℕ) (colors : List Rgb15) where
  background_pair_plain : bit semi_bit (background_pair line region colors).top_tag ≡ false
  unfolding background_pair put_background
  background_pair_plain =
      cond_plain (is_seen (bit 0 region) (line_color colors 0)) _ _ (unmarked-is.places_plain 0 (omega arith))
      (cond_plain (is_seen (bit 1 region) (line_color colors 1)) _ _ (unmarked-is.places_plain 1 (omega arith))
      (cond_plain (is_seen (bit 2 region) (line_color colors 2)) _ _ (unmarked-is.places_plain 2 (omega arith))
      (cond_plain (is_seen (bit 3 region) (line_color colors 3)) _ _ (unmarked-is.places_plain 3 (omega arith))
      unmarked-is.backdrop_plain)))

  -- With an object whose tag has no mark either, the top of a column has none.
  pub column_pair_plain : (tag object : ℕ) → bit semi_bit tag ≡ false
      → bit semi_bit (column_pair line region tag object colors).top_tag ≡ false
  unfolding column_pair put_object
  column_pair_plain tag object plain =
      cond_plain (goes_over (bit objects_bit region) tag object (background_pair line region colors).top_tag) _ _ plain
      background_pair_plain

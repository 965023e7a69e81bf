-- The reason of a case, of what code finds part by part. No contract cites this file. Assumes nothing.
use Prim.Native.Nat.{ℕ}
use mathlib.Core.Path.{◌≡◌, refl, sym, ap, ◌∙◌}
use mathlib.Core.Bool.{Bool}
use mathlib.Core.List.{List}
use Rattle.rgb15.specs.Colour.{to_rgb24}
use Rattle.regs.specs.declared.reading.Reading.{Reading}
use Rattle.regs_blend.specs.Layers.{layer_bit}
use Rattle.obj_entries.specs.Entry.{semi_mark, window_mark}
use Rattle.obj_entries.specs.declared.Entry.{Entry}
use Rattle.sfx_regions.specs.Region.{region, permitted}
use Rattle.sfx_regions.specs.declared.WindowType.{WindowType}
use Rattle.sfx_layers.specs.Layers.{Layer, Pair, layers}
use Rattle.sfx_effects.specs.Effects as Effects
use Rattle.sfx.specs.Pixel.{Case, case_in, case_of, case_color}
use Rattle.explain_layers.specs.Code.{LayersOf}
use Rattle.explain_layers.specs.declared.Layers.{Layers}
use Rattle.explain_effects.specs.Weights.{effect_number, first_weight, second_weight}
use Rattle.explain_effects.specs.Code.{effect_of, pair_of, EffectWeightsOf, weighed_color}
use Rattle.explain_effects.specs.declared.Effect.{Effect}
use Rattle.explain_effects.specs.declared.EffectWeights.{EffectWeights}
use Rattle.explain_effects.proofs.Weighed.{weighed-color}
use Rattle.explain.specs.Reason.{region_number, case_reason}

-- An effect asks for nothing of two layers but their kinds.
effect_kinds : (registers : List ℕ) (flags : ℕ) (semi : Bool) (p : Pair)
    → Effects.effect registers flags semi (pair_of p.top.kind p.bottom.kind) ≡ Effects.effect registers flags semi p
unfolding Effects.effect
effect_kinds registers flags semi p = refl

module _ (reading : Reading) (registers : List ℕ) (backdrop : ℕ) (bgs : List Layer) (e : Entry) (column line : ℕ)
    {kind : WindowType} (kind-is : kind ≡ region reading registers (window_mark e) column line)
    {flags : ℕ} (flags_are : flags ≡ permitted registers kind)
    {l : Layers} (l-are : LayersOf (layers registers flags backdrop bgs e) l) where
  -- The case of the column.
  abbrev found : Case
  found = case_of reading registers backdrop bgs e column line

  -- The two layers of the column.
  abbrev two : Pair
  two = layers registers flags backdrop bgs e

  case_is : found ≡ record { region = kind; pair = two; effect = Effects.effect registers flags (semi_mark e) two }
  unfolding case_of case_in
  case_is = rw (sym kind-is, sym flags_are)

  module _ (k : Effect)
      (k-is : effect_of k ≡ Effects.effect registers flags (semi_mark e) (pair_of l.top.kind l.bottom.kind))
      {w : EffectWeights} (w-are : EffectWeightsOf reading registers (effect_of k) w) where
    effect_is : effect_of k ≡ found.effect
    effect_is =
        k-is
        ∙ rw (l-are.top_kind_is, l-are.bottom_kind_is) (effect_kinds registers flags (semi_mark e) two)
        ∙ ap (λ (c : Case). c.effect) (sym case_is)

    top_is : (l.top.kind ≡ found.pair.top.kind) × (l.top.color.0 ≡ found.pair.top.color)
    top_is = rw case_is (l-are.top_kind_is, l-are.top_color_is)

    bottom_is : (l.bottom.kind ≡ found.pair.bottom.kind) × (l.bottom.color.0 ≡ found.pair.bottom.color)
    bottom_is = rw case_is (l-are.bottom_kind_is, l-are.bottom_color_is)

    pixel_is : to_rgb24 (weighed_color (effect_of k) w l.top.color.0 l.bottom.color.0)
        ≡ to_rgb24 (case_color reading registers found)
    unfolding case_color
    pixel_is =
        rw (w-are.first_is, w-are.second_is)
        (weighed-color reading registers (effect_of k) l.top.color.0 l.bottom.color.0
        ∙ rw (effect_is, top_is.1, bottom_is.1))

    -- The numbers that code finds are those of the case's reason.
    pub reason_found : {n t b f p : ℕ} → n ≡ region_number kind → t ≡ layer_bit l.top.kind → b ≡ layer_bit l.bottom.kind
        → f ≡ effect_number (effect_of k)
        → p ≡ to_rgb24 (weighed_color (effect_of k) w l.top.color.0 l.bottom.color.0)
        → record {
          number = 0;
          blank = 0;
          region = n;
          top = t;
          bottom = b;
          effect = f;
          top_color = l.top.color.0;
          bottom_color = l.bottom.color.0;
          first_weight = w.first;
          second_weight = w.second;
          pixel = p;
        }
        ≡ case_reason reading registers found
    unfolding case_reason
    reason_found n-is t-is b-is f-is p-is =
        cc (
          n-is ∙ ap (λ (c : Case). region_number c.region) (sym case_is),
          t-is ∙ ap layer_bit top_is.0,
          b-is ∙ ap layer_bit bottom_is.0,
          f-is ∙ ap effect_number effect_is,
          top_is.1,
          bottom_is.1,
          w-are.first_is ∙ ap (first_weight reading registers) effect_is,
          w-are.second_is ∙ ap (second_weight reading registers) effect_is,
          p-is ∙ pixel_is,
        )

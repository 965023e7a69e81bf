-- Laws of one column: backgrounds put from the last place to the first leave the first two that count, and the object goes
-- over them. No contract cites this file. Assumes nothing.
use Prim.Native.Nat.{ℕ}
use mathlib.Core.Path.{◌≡◌, refl, ap, ◌∙◌}
use mathlib.Core.Bool.{Bool, true, false, cond, ◌&&◌}
use mathlib.Core.List.{List, [], ◌∷◌, map}
use lib.ListN.{get_or}
use Rattle.std.specs.Prelude.{Option, Some, None}
use Rattle.rgb15.specs.declared.Rgb15.{Rgb15}
use Rattle.regs.specs.Registers.{dispcnt}
use Rattle.regs.specs.Display.{enable_obj}
use Rattle.regs_window.specs.Windows.{permits, permits_objects}
use Rattle.regs_blend.proofs.Laws.{layer_bit-background}
use Rattle.obj_entries.specs.declared.Entry.{Entry}
use Rattle.sfx_sorting.specs.Ordered.{keep, ordered}
use Rattle.sfx_sorting.specs.Code.{number_in, places}
use Rattle.sfx_sorting.specs.declared.background.Background.{Background}
use Rattle.sfx_layers.specs.Layers.{Layer, Pair, background, backgrounds, backdrop_layer, object_layer}
use Rattle.sfx_layers.specs.Layers.{counts, object_counts, first_two, placed, layers}
use Rattle.sfx_layers.specs.Code.{line_color, is_seen}
use Rattle.sfx_layers.proofs.Places.{placed_layer, placed_layers, color_in, placed_layers-ordered}
use Rattle.explain_layers.specs.Code.{as_pair, put_place, LayersOf}
use Rattle.explain_layers.specs.declared.Layers.{Layers}

-- Layers are those of the pair that they make.
layers_of_pair : {p : Pair} {r : Layers} → as_pair r ≡ p → LayersOf p r
layers_of_pair e =
    record {
      top_kind_is = ap (λ p. p.top.kind) e;
      top_priority_is = ap (λ p. p.top.priority) e;
      top_color_is = ap (λ p. p.top.color) e;
      bottom_kind_is = ap (λ p. p.bottom.kind) e;
      bottom_priority_is = ap (λ p. p.bottom.priority) e;
      bottom_color_is = ap (λ p. p.bottom.color) e;
    }

module _ (registers : List ℕ) (flags : ℕ) (back : Layer) (colors : List Rgb15) where
  -- The colour of a background.
  abbrev color : ℕ → ℕ
  color = line_color colors

  -- A background over the first two of those after it, by whether it is shown.
  put-background : (rest : List Layer) (bg : Background) (shown : Bool)
      → is_seen (permits flags bg.number) (color bg.number) ≡ shown
      → put_place registers flags (Some bg) colors (first_two flags back rest)
      ≡ first_two flags back (background registers bg.number (color bg.number) ∷ rest)
  unfolding put_place first_two keep counts
  put-background rest bg true t = rw (layer_bit-background bg.number bg.below, t)
  put-background rest bg false t = rw (layer_bit-background bg.number bg.below, t)

  -- A place over the first two of those after it.
  put_place-first_two : (rest : List Layer) (place : Option Background)
      → put_place registers flags place colors (first_two flags back rest)
      ≡ first_two flags back (placed_layer registers (number_in place) (color_in color (number_in place)) rest)
  unfolding put_place placed_layer
  put_place-first_two rest None = refl
  put_place-first_two rest (Some bg) = put-background rest bg _ refl

  -- The same, from what is behind the place and what is put there.
  first_two_put : (rest : List Layer) (place : Option Background) {behind r : Pair}
      → behind ≡ first_two flags back rest → r ≡ put_place registers flags place colors behind
      → r ≡ first_two flags back (placed_layer registers (number_in place) (color_in color (number_in place)) rest)
  first_two_put rest place behind-is r-is =
      r-is ∙ ap (put_place registers flags place colors) behind-is ∙ put_place-first_two rest place

module _ (registers : List ℕ) (flags backdrop : ℕ) (colors : List Rgb15) (at : List (Option Background))
    (at-is : map number_in at ≡ places (ordered registers)) where
  -- The backdrop as a layer.
  abbrev back : Layer
  back = backdrop_layer backdrop

  -- Layers are those behind them with place k put over.
  abbrev put : ℕ → Layers → Layers → Type 0
  put k behind r = as_pair r ≡ put_place registers flags (get_or at k None) colors (as_pair behind)

  -- The pair that four steps from the backdrop give.
  first_two-steps : {behind fourth third second first : Layers}
      → as_pair behind ≡ record { top = back; bottom = back }
      → put 3 behind fourth → put 2 fourth third → put 1 third second → put 0 second first
      → as_pair first ≡ first_two flags back (backgrounds registers (line_color colors))
  unfolding first_two keep placed_layers
  first_two-steps behind-is fourth-is third-is second_is first_is =
      first_two_put registers flags back colors _ _
      (first_two_put registers flags back colors _ _
      (first_two_put registers flags back colors _ _
      (first_two_put registers flags back colors [] _ behind-is fourth-is)
      third-is)
      second_is)
      first_is
      ∙ ap (first_two flags back) (placed_layers-ordered registers (line_color colors) at at-is)

  -- The layers that the object's step then gives.
  pub layers_of-steps : (e : Entry) {behind fourth third second first r : Layers} {objects sprites : Bool}
      → as_pair behind ≡ record { top = back; bottom = back }
      → put 3 behind fourth → put 2 fourth third → put 1 third second → put 0 second first
      → objects ≡ permits_objects flags
      → sprites ≡ enable_obj (dispcnt registers)
      → as_pair r ≡ cond (is_seen (objects && sprites) e.color.0) (placed (object_layer e) (as_pair first)) (as_pair first)
      → LayersOf (layers registers flags backdrop (backgrounds registers (line_color colors)) e) r
  unfolding layers object_counts
  layers_of-steps e behind-is fourth-is third-is second_is first_is objects_is sprites-is r-is =
      let two = first_two-steps behind-is fourth-is third-is second_is first_is in
      layers_of_pair (rw (two, objects_is, sprites-is) at r-is)

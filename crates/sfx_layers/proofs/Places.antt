-- Laws of places: with the colour of each place's background, the layers of the places are the backgrounds in their order.
-- No contract cites this file. Assumes nothing.
use Prim.Native.Nat.{ℕ, ◌≤◌}
use native.Mathlib.Omega.{arith}
use mathlib.Core.Path.{◌≡◌, refl, sym, ap, ◌∙◌}
use mathlib.Core.List.{List, [], ◌∷◌, map}
use lib.ListN.{length, get_or, get_or-map}
use Rattle.std.specs.Prelude.{Option, Some, None}
use Rattle.sfx_sorting.specs.Ordered.{ordered}
use Rattle.sfx_sorting.specs.Code.{number_in, places}
use Rattle.sfx_sorting.specs.declared.background.Background.{Background}
use Rattle.sfx_sorting.proofs.Sorting.{length-ordered}
use Rattle.sfx_layers.specs.Layers.{Layer, background, backgrounds}

-- The layer of a place, if it holds a background, before those of the places after it.
unfoldable pub placed_layer : List ℕ → Option ℕ → ℕ → List Layer → List Layer
placed_layer registers None color rest = rest
placed_layer registers (Some bg) color rest = background registers bg color ∷ rest

-- The layers of the four places at a column, by what each holds and its colour.
unfoldable pub placed_layers : List ℕ → (ℕ → Option ℕ) → (ℕ → ℕ) → List Layer
placed_layers registers at color =
    let put : ℕ → List Layer → List Layer = λ k. placed_layer registers (at k) (color k) in
    put 0 (put 1 (put 2 (put 3 [])))

-- What place k of an array holds.
abbrev pub number_at : List (Option Background) → ℕ → Option ℕ
number_at at k = number_in (get_or at k None)

-- The colour of what a place holds; where it holds none, any serves.
abbrev pub color_in : (ℕ → ℕ) → Option ℕ → ℕ
color_in color None = color 0
color_in color (Some bg) = color bg

module _ (registers : List ℕ) (color : ℕ → ℕ) where
  layers_in : List (Option ℕ) → List Layer
  layers_in held = placed_layers registers (λ k. get_or held k None) (λ k. color_in color (get_or held k None))

  layers_in-places : (order : List ℕ) → length order ≤ 4
      → layers_in (places order) ≡ map (λ bg. background registers bg (color bg)) order
  unfolding layers_in placed_layers places placed_layer
  layers_in-places [] few = refl
  layers_in-places (p ∷ []) few = refl
  layers_in-places (p ∷ q ∷ []) few = refl
  layers_in-places (p ∷ q ∷ r ∷ []) few = refl
  layers_in-places (p ∷ q ∷ r ∷ s ∷ []) few = refl
  layers_in-places (p ∷ q ∷ r ∷ s ∷ x ∷ l) few = absurd (omega arith)

  -- The layers of the places are the backgrounds in their order.
  pub placed_layers-ordered : (at : List (Option Background)) → map number_in at ≡ places (ordered registers)
      → placed_layers registers (number_at at) (λ k. color_in color (number_at at k)) ≡ backgrounds registers color
  unfolding layers_in placed_layers
  placed_layers-ordered at at-is =
      rw (held 0, held 1, held 2, held 3) (layers_in-places (ordered registers) (length-ordered registers))
    where
      held : (k : ℕ) → number_at at k ≡ get_or (places (ordered registers)) k None
      held k = sym (get_or-map number_in at k None) ∙ ap (λ l. get_or l k None) at-is

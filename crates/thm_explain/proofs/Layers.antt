-- Layers by their numbers: the first two backgrounds that count lead those that show. No contract cites this file. Assumes
-- nothing.
use Prim.Native.Nat.{ℕ, zero, suc, ◌≤◌, ◌<◌}
use native.Mathlib.Omega.{arith}
use mathlib.Core.Path.{◌≡◌, refl, ap₂}
use mathlib.Core.Bool.{true}
use mathlib.Core.List.{List, [], ◌∷◌, map, Memᴰ}
use mathlib.Core.Logic.{◌⊎◌, ◌≢◌, inl, inr}
use lib.Dec.{ltb}
use lib.ListN.{get_or, get_or-map}
use borrow.Author.Tests.{ltb-true, not-true}
use Rattle.bits.proofs.Booleans.{and_both}
use Rattle.memory.specs.Palette.{backdrop}
use Rattle.regs_window.specs.Windows.{permits}
use Rattle.regs_blend.specs.Layers.{background_layer, layer_bit}
use Rattle.regs_blend.specs.declared.layer.RenderLayerKind.{RenderLayerKind}
use Rattle.regs_blend.specs.declared.layer.RenderLayerKind.TheVariants.{
  Background0,
  Background1,
  Background2,
  Background3,
  Objects,
  Backdrop,
}
use Rattle.sfx_sorting.specs.Ordered.{keep, ordered}
use Rattle.sfx_sorting.proofs.Sorting.{small, small-ordered}
use Rattle.sfx_layers.specs.Layers.{Layer, Pair, background, backgrounds, backdrop_layer}
use Rattle.sfx_layers.specs.Layers.{counts, first_two}
use Rattle.gpu.specs.Line.{color_of}
use Rattle.thm_explain.specs.Fits.{Column, registers_of, layer_color, layer_priority}
use Rattle.thm_explain.specs.Fits.{LayerShows, shows_background, shows_objects, shows_backdrop}
use Rattle.thm_explain.proofs.Rising.{keep-map, member-keep, kept_member, rises-keep}
use Rattle.thm_explain.proofs.Leading.{Leads, leads_list}
use Rattle.thm_explain.proofs.Fronts.{place}
use Rattle.thm_explain.proofs.Backgrounds.{rises-ordered, member-ordered, ordered_member}

-- ---- layers by number

-- The kind of a layer's number.
abbrev kind_of : ℕ → RenderLayerKind
kind_of n = get_or (Background0 ∷ Background1 ∷ Background2 ∷ Background3 ∷ Objects ∷ Backdrop ∷ []) n Backdrop

pub layer_bit_kind : (n : ℕ) → n ≤ 5 → layer_bit (kind_of n) ≡ n
layer_bit_kind zero n≤ = refl
layer_bit_kind (suc zero) n≤ = refl
layer_bit_kind (suc (suc zero)) n≤ = refl
layer_bit_kind (suc (suc (suc zero))) n≤ = refl
layer_bit_kind (suc (suc (suc (suc zero)))) n≤ = refl
layer_bit_kind (suc (suc (suc (suc (suc zero))))) n≤ = refl
layer_bit_kind (suc (suc (suc (suc (suc (suc n)))))) n≤ = absurd (omega arith)

module _ (k : Column) where
  -- A layer at the column by its number.
  abbrev layer_at : ℕ → Layer
  layer_at n = record { kind = kind_of n; priority = layer_priority k n; color = layer_color k n }

  abbrev pub pair_at : ℕ → ℕ → Pair
  pair_at a b = record { top = layer_at a; bottom = layer_at b }

  abbrev background_at : ℕ → Layer
  background_at bg = background (registers_of k) bg (color_of k.call bg k.at)

  layer-background : (bg : ℕ) → bg < 4 → background_at bg ≡ layer_at bg
  unfolding background_layer
  layer-background zero bg< = refl
  layer-background (suc zero) bg< = refl
  layer-background (suc (suc zero)) bg< = refl
  layer-background (suc (suc (suc zero))) bg< = refl
  layer-background (suc (suc (suc (suc bg)))) bg< = absurd (omega arith)

  map-layers : (l : List ℕ) → small l ≡ true → map background_at l ≡ map layer_at l
  unfolding small
  map-layers [] t = refl
  map-layers (bg ∷ l) t =
      let both = and_both (ltb bg 4) (small l) t in
      ap₂ ◌∷◌ (layer-background bg (ltb-true bg 4 both.0)) (map-layers l both.1)

  -- ---- the backgrounds that count

  module _ (flags : ℕ) where
    -- Those that show and aren't objects.
    abbrev pub Behind : ℕ → Type 0
    Behind n = LayerShows k flags n × (n ≢ 4)

    -- Of the backgrounds in their order, those that count.
    abbrev pub counted : List ℕ
    counted = keep (λ n. counts flags (layer_at n)) (ordered (registers_of k))

    -- What the backgrounds alone make.
    abbrev backs : Pair
    backs =
        first_two flags (backdrop_layer (backdrop k.call.memory.palette))
        (backgrounds (registers_of k) (λ bg. color_of k.call bg k.at))

    pub backs_are : backs ≡ pair_at (get_or counted 0 5) (get_or counted 1 5)
    unfolding first_two
    backs_are =
        rw (map-layers (ordered (registers_of k)) (small-ordered (registers_of k)), keep-map (counts flags) layer_at)
        (ap₂ (λ a b. record { top = a; bottom = b }) (get_or-map layer_at counted 0 5) (get_or-map layer_at counted 1 5))

    counted-shows : (n : ℕ) → Memᴰ n counted → Behind n
    unfolding counts
    counted-shows n at =
        let kept = kept_member (λ m. counts flags (layer_at m)) (ordered (registers_of k)) at in
        let stands = ordered_member k kept.1 in
        let bg< : n < 4 = stands.0 in
        let both = and_both (permits flags (layer_bit (kind_of n))) _ kept.0 in
        let permitted = rw (layer_bit_kind n (omega arith)) at both.0 in
        (shows_background n bg< stands.1 permitted (not-true _ both.1), λ e. omega arith)

    shows-counted : (n : ℕ) → Behind n → Memᴰ n counted ⊎ (n ≡ 5)
    unfolding counts
    shows-counted n (shows_background bg bg< on permitted opaque, other) =
        inl (member-keep _ (rw (layer_bit_kind bg (omega arith), permitted, opaque)) (member-ordered k bg bg< on))
    shows-counted n (shows_objects on permitted opaque, other) = absurd (other refl)
    shows-counted n (shows_backdrop, other) = inr refl

    pub leads_backs : Leads Behind (place k) 5 (get_or counted 0 5) (get_or counted 1 5)
    leads_backs =
        leads_list Behind 5 (shows_backdrop, λ e. omega arith) (rises-keep _ (rises-ordered k)) counted-shows shows-counted

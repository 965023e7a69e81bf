-- Laws of a column: the words that code computes with are those of the layers and of what the region permits. No contract
-- cites this file. Assumes nothing.
use Prim.Native.Nat.{ℕ, zero, suc, ◌<◌}
use native.Mathlib.Omega.{arith}
use mathlib.Core.Path.{◌≡◌, refl, ap, ◌∙◌}
use mathlib.Core.Bool.{Bool, true, false, cond, ◌&&◌}
use mathlib.Core.List.{List, [], ◌∷◌, map}
use lib.Dec.{leb}
use Rattle.std.specs.Prelude.{Option, Some, None}
use Rattle.sfx_sorting.specs.Code.{number_in}
use Rattle.sfx_sorting.specs.declared.background.Background.{Background}
use lib.ListN.{get_or, get_or-map}
use Rattle.rows.specs.Tab.{tab}
use Rattle.rows.proofs.Tab.{tab_cong, get_or-of-tab}
use Rattle.rgb15.specs.declared.Rgb15.{Rgb15}
use Rattle.memory.specs.Palette.{backdrop}
use Rattle.regs.specs.Registers.{bgcnt, dispcnt}
use Rattle.regs.specs.Background.{priority}
use Rattle.regs.specs.Display.{enable_obj}
use Rattle.regs.specs.declared.reading.Reading.{Reading}
use Rattle.regs_window.specs.Windows.{permits}
use Rattle.regs_blend.specs.Layers.{background_layer}
use Rattle.regs_blend.specs.declared.BlendMode.{BlendMode}
use Rattle.regs_blend.proofs.Laws.{layer_bit-background}
use Rattle.obj_entries.specs.Entry.{semi_mark}
use Rattle.obj_entries.specs.declared.Entry.{Entry}
use Rattle.sfx_regions.specs.Region.{permitted}
use Rattle.sfx_regions.specs.Code.{region_at, region_row}
use Rattle.sfx_regions.specs.declared.RegionWords.{RegionWords}
use Rattle.sfx_regions.specs.declared.WindowType.TheVariants.{Win0, Win1, WinObj, WinOut, WinNone}
use Rattle.sfx_regions.proofs.Regions.{word_in_each}
use Rattle.sfx_sorting.specs.Ordered.{keep}
use Rattle.sfx_layers.specs.Layers.{Layer, Pair, is_object, background, backdrop_layer, object_layer}
use Rattle.sfx_layers.specs.Layers.{counts, object_counts, first_two, placed, layers}
use Rattle.sfx_layers.specs.Code.{line_color, object_tag, line_tag, line_place_tag, place_tag, is_seen, goes_over}
use Rattle.sfx_layers.specs.Code.{permits_place, region_word, column_region}
use Rattle.sfx_layers.specs.Code.{put_background, backdrop_pair, background_pair, put_object, column_pair, LineLayersOf}
use Rattle.sfx_layers.specs.declared.layer.LayerPair.{LayerPair}
use Rattle.sfx_layers.specs.declared.layer.LineLayers.{LineLayers}
use Rattle.sfx_layers.proofs.Places.{placed_layer, placed_layers, number_at}
use Rattle.sfx_layers.proofs.Tags.{tag_of, tag-bits, tag_plain, tag_object, region-bits}

is_object-background : (bg : ℕ) → bg < 4 → is_object (background_layer bg) ≡ false
unfolding background_layer
is_object-background zero bg< = refl
is_object-background (suc zero) bg< = refl
is_object-background (suc (suc zero)) bg< = refl
is_object-background (suc (suc (suc zero))) bg< = refl
is_object-background (suc (suc (suc (suc bg)))) bg< = absurd (omega arith)

module _ (registers : List ℕ) (semi : Bool) where
  -- Two layers as code has them; semi is whether the object is semi-transparent.
  unfoldable pub pair_of : Pair → LayerPair
  pair_of p =
      record {
        top = p.top.color;
        top_tag = tag_of registers semi p.top;
        bottom = p.bottom.color;
        bottom_tag = tag_of registers semi p.bottom;
      }

  -- ---- the backgrounds

  module _ (flags : ℕ) (back : Layer) (rest : List Layer) (color : ℕ) where
    -- A background over what is behind it, if it is shown.
    put-background : (bg : ℕ) → bg < 4 → (t : Bool) → is_seen (permits flags bg) color ≡ t
        → put_background (pair_of (first_two flags back rest)) (permits flags bg)
        (line_tag registers (background_layer bg) (priority (bgcnt registers bg))) color
        ≡ pair_of (first_two flags back (background registers bg color ∷ rest))
    unfolding put_background pair_of first_two keep counts
    put-background bg bg< true t =
        let plain = tag_plain registers semi (background registers bg color) (is_object-background bg bg<) in
        rw (layer_bit-background bg bg<, t, plain)
    put-background bg bg< false t = rw (layer_bit-background bg bg<, t)

    -- The background of a place, if it has one.
    put-place : (place : Option Background)
        → put_background (pair_of (first_two flags back rest)) (permits_place flags (number_in place))
        (line_place_tag registers (number_in place)) color
        ≡ pair_of (first_two flags back (placed_layer registers (number_in place) color rest))
    unfolding place_tag placed_layer put_background
    put-place None = refl
    put-place (Some bg) = put-background bg.number bg.below _ refl

  -- ---- the object

  module _ (object : Layer) (permitted : Bool) (p : Pair) where
    -- The test of code is that of the priorities.
    goes_over_is : (l : Layer)
        → goes_over permitted (tag_of registers semi object) object.color (tag_of registers semi l)
        ≡ is_seen permitted object.color && leb object.priority l.priority
    goes_over_is l = rw ((tag-bits registers semi object).priority_is, (tag-bits registers semi l).priority_is)

    -- An object in its place, if it is shown.
    place_object : (shown first second : Bool) → is_seen permitted object.color ≡ shown
        → leb object.priority p.top.priority ≡ first
        → leb object.priority p.bottom.priority ≡ second
        → put_object (pair_of p) permitted (tag_of registers semi object) object.color
        ≡ pair_of (cond (is_seen permitted object.color) (placed object p) p)
    unfolding put_object placed pair_of
    place_object true true second c s t = rw (goes_over_is p.top, goes_over_is p.bottom, c, s)
    place_object true false true c s t = rw (goes_over_is p.top, goes_over_is p.bottom, c, s, t)
    place_object true false false c s t = rw (goes_over_is p.top, goes_over_is p.bottom, c, s, t)
    place_object false first second c s t = rw (goes_over_is p.top, goes_over_is p.bottom, c)

-- ---- a column

module _ (palette registers : List ℕ) (at : List (Option Background)) {line : LineLayers BlendMode}
    (line-is : LineLayersOf palette registers (map number_in at) line)
    (colors : List Rgb15) (e : Entry) (flags : ℕ) where
  -- The word of the column's region.
  abbrev word : ℕ
  word = region_word (enable_obj (dispcnt registers)) (map number_in at) flags

  backdrop-pair : backdrop_pair line ≡ pair_of registers (semi_mark e) (first_two flags (backdrop_layer (backdrop palette)) [])
  unfolding first_two keep pair_of
  backdrop-pair =
      let plain = tag_plain registers (semi_mark e) (backdrop_layer (backdrop palette)) refl in
      rw (line-is.backdrop_is, line-is.backdrop_tag_is ∙ plain)

  held : (k : ℕ) → get_or (map number_in at) k None ≡ number_at at k
  held k = get_or-map number_in at k None

  place : (k : ℕ) → k < 4 → get_or line.places k 0 ≡ line_place_tag registers (number_at at k)
  place k k< = get_or-of-tab _ 4 k 0 line-is.places_are k< ∙ ap (line_place_tag registers) (held k)

  background-pair : background_pair line word colors
      ≡ pair_of registers (semi_mark e)
      (first_two flags (backdrop_layer (backdrop palette)) (placed_layers registers (number_at at) (line_color colors)))
  unfolding background_pair placed_layers
  background-pair =
      let bits = region-bits (enable_obj (dispcnt registers)) (map number_in at) flags in
      let semi = semi_mark e in
      let back : Layer = backdrop_layer (backdrop palette) in
      rw (bits.place0_is, bits.place1_is, bits.place2_is, bits.place3_is, held 0, held 1, held 2, held 3)
      (rw (place 0 (omega arith), place 1 (omega arith), place 2 (omega arith), place 3 (omega arith), backdrop-pair)
      (rw (
        put-place registers semi flags back [] (line_color colors 3) (get_or at 3 None),
        put-place registers semi flags back _ (line_color colors 2) (get_or at 2 None),
        put-place registers semi flags back _ (line_color colors 1) (get_or at 1 None),
        put-place registers semi flags back _ (line_color colors 0) (get_or at 0 None),
      )))

  pub column-pair : column_pair line word (object_tag line.object e) e.color.0 colors
      ≡ pair_of registers (semi_mark e)
      (layers registers flags (backdrop palette) (placed_layers registers (number_at at) (line_color colors)) e)
  unfolding column_pair layers object_counts
  column-pair =
      let bits = region-bits (enable_obj (dispcnt registers)) (map number_in at) flags in
      rw (background-pair, bits.objects_is, line-is.object_is, tag_object registers (semi_mark e) e refl)
      (place_object registers (semi_mark e) (object_layer e) _ _ _ _ _ refl refl refl)

-- ---- a line

-- The words of the five regions, by the flags that were read of each.
pub regions_are : (reading : Reading) (registers entries : List ℕ) (at : List (Option ℕ)) (line : ℕ)
    {objects : Bool} {words : RegionWords} {row : List ℕ}
    → objects ≡ enable_obj (dispcnt registers)
    → words.win0 ≡ region_word objects at (permitted registers Win0)
    → words.win1 ≡ region_word objects at (permitted registers Win1)
    → words.winobj ≡ region_word objects at (permitted registers WinObj)
    → words.winout ≡ region_word objects at (permitted registers WinOut)
    → words.winnone ≡ region_word objects at (permitted registers WinNone)
    → row ≡ region_row reading registers entries line words
    → row ≡ tab (column_region reading registers entries at line) 240
regions_are reading registers entries at line {objects} {words} objects_is win0 win1 winobj winout winnone row_is =
    row_is
    ∙ tab_cong _ _ 240 (λ column lt.
    word_in_each (λ kind. region_word objects at (permitted registers kind)) words win0 win1 winobj winout winnone _
    ∙ ap (λ o. region_word o at (permitted registers (region_at reading registers entries column line))) objects_is)

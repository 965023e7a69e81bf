-- As code has it: a layer as two halfwords and a region as one, which a loop over columns chooses
-- between without branches (01, "What must change shape").
-- No exported contract reaches this file. Assumes nothing.
use Rattle.std.specs.Prelude.{ℕ, ◌+◌, ◌*◌, ◌/◌, ◌%◌, ◌^◌, ◌<◌, ◌≡◌, cond}
use Rattle.std.specs.Prelude.{Bool, false, not, ◌&&◌, List, [], ◌∷◌, Option, Some, None, leb, get_or}
use Rattle.bits.specs.Bits.{bit}
use Rattle.rows.specs.Tab.{tab}
use Rattle.rgb15.specs.Colour.{rgb, is_transparent}
use Rattle.rgb15.specs.declared.Rgb15.{Rgb15}
use Rattle.memory.specs.Palette.{backdrop}
use Rattle.regs.specs.Registers.{dispcnt, bgcnt, bldcnt}
use Rattle.regs.specs.Display.{enable_obj}
use Rattle.regs.specs.Background.{priority}
use Rattle.regs.specs.declared.reading.Reading.{Reading}
use Rattle.regs_window.specs.Windows.{permits, permits_objects, permits_effects}
use Rattle.regs_blend.specs.Layers.{background_layer, targets}
use Rattle.regs_blend.specs.Blend.{target1, target2, blend_mode}
use Rattle.regs_blend.specs.declared.BlendMode.{BlendMode}
use Rattle.regs_blend.specs.declared.BlendMode.TheVariants.{BldNone, BldAlpha, BldWhite, BldBlack}
use Rattle.regs_blend.specs.declared.layer.RenderLayerKind.{RenderLayerKind}
use Rattle.regs_blend.specs.declared.layer.RenderLayerKind.TheVariants.{Objects, Backdrop}
use Rattle.obj_entries.specs.declared.Entry.{Entry}
use Rattle.sfx_regions.specs.Region.{permitted}
use Rattle.sfx_regions.specs.Code.{region_at}
use Rattle.sfx_layers.specs.declared.layer.LayerPair.{LayerPair}
use Rattle.sfx_layers.specs.declared.layer.LineLayers.{LineLayers}

-- The colour of a line at a column.
abbrev pub line_color : List Rgb15 → ℕ → ℕ
line_color line column = (get_or line column (rgb 0)).0

-- A truth value as a bit.
abbrev pub as_bit : Bool → ℕ
as_bit t = cond t 1 0

-- ---- layers

-- The control's effect of a number: 0 none, 1 blend, 2 white, and any other black.
unfoldable pub mode_numbered : ℕ → BlendMode
mode_numbered number = get_or (BldNone ∷ BldAlpha ∷ BldWhite ∷ []) number BldBlack

-- The bits of a layer's tag: whether it is a first target, a second target, a semi-transparent object; above, the priority.
abbrev pub first_bit : ℕ
first_bit = 0

abbrev pub second_bit : ℕ
second_bit = 1

abbrev pub semi_bit : ℕ
semi_bit = 2

abbrev pub priority_bit : ℕ
priority_bit = 3

-- All of a layer but its colour, by the targets.
unfoldable pub layer_tag : ℕ → ℕ → RenderLayerKind → ℕ → ℕ
layer_tag first second kind priority =
    2 ^ first_bit * as_bit (targets first kind) + 2 ^ second_bit * as_bit (targets second kind) + 2 ^ priority_bit * priority

-- The same, by the registers.
abbrev pub line_tag : List ℕ → RenderLayerKind → ℕ → ℕ
line_tag registers = layer_tag (target1 (bldcnt registers)) (target2 (bldcnt registers))

-- An object's tag, by the one that all objects share.
abbrev pub object_tag : ℕ → Entry → ℕ
object_tag tag e = tag + 2 ^ semi_bit * (e.marks % 2) + 2 ^ priority_bit * e.priority

-- A tag's priority.
abbrev pub tag_priority : ℕ → ℕ
tag_priority tag = tag / 2 ^ priority_bit

-- Whether a pixel is permitted and opaque.
abbrev pub is_seen : Bool → ℕ → Bool
is_seen permitted color = permitted && not (is_transparent color)

-- Whether an object's pixel is shown and goes over a layer, by the tags of both.
abbrev pub goes_over : Bool → ℕ → ℕ → ℕ → Bool
goes_over permitted tag color behind = is_seen permitted color && leb (tag_priority tag) (tag_priority behind)

-- A background's pixel over what is behind it, if it is shown: the top that it covers becomes the bottom.
unfoldable pub put_background : LayerPair → Bool → ℕ → ℕ → LayerPair
put_background behind permitted tag color =
    let over = is_seen permitted color in
    record {
      top = cond over color behind.top;
      top_tag = cond over tag behind.top_tag;
      bottom = cond over behind.top behind.bottom;
      bottom_tag = cond over behind.top_tag behind.bottom_tag;
    }

-- An object's pixel is on top if it goes over the top, else second if it goes over the bottom.
unfoldable pub put_object : LayerPair → Bool → ℕ → ℕ → LayerPair
put_object behind permitted tag color =
    let first = goes_over permitted tag color behind.top_tag in
    let second = goes_over permitted tag color behind.bottom_tag in
    record {
      top = cond first color behind.top;
      top_tag = cond first tag behind.top_tag;
      bottom = cond first behind.top (cond second color behind.bottom);
      bottom_tag = cond first behind.top_tag (cond second tag behind.bottom_tag);
    }

-- The tag of the background in a place; 0 if it has none.
unfoldable pub place_tag : List ℕ → ℕ → ℕ → Option ℕ → ℕ
place_tag registers first second None = 0
place_tag registers first second (Some bg) = layer_tag first second (background_layer bg) (priority (bgcnt registers bg))

-- The same, by the registers' targets.
abbrev pub line_place_tag : List ℕ → Option ℕ → ℕ
line_place_tag registers = place_tag registers (target1 (bldcnt registers)) (target2 (bldcnt registers))

-- A line's layers are those of its palette, its registers and its places.
pub record LineLayersOf (palette registers : List ℕ) (at : List (Option ℕ)) (l : LineLayers BlendMode) : Type 0 where
  pub places_are : l.places ≡ tab (λ k. line_place_tag registers (get_or at k None)) 4
  pub object_is : l.object ≡ line_tag registers Objects 0
  pub backdrop_is : l.backdrop ≡ backdrop palette
  pub backdrop_tag_is : l.backdrop_tag ≡ line_tag registers Backdrop 4
  pub mode_is : l.mode ≡ blend_mode (bldcnt registers)

-- No tag of a background or the backdrop has the mark of a semi-transparent object.
pub record Unmarked {M : Type 0} (l : LineLayers M) : Type 0 where
  pub places_plain : (k : ℕ) → k < 4 → bit semi_bit (get_or l.places k 0) ≡ false
  pub backdrop_plain : bit semi_bit l.backdrop_tag ≡ false

-- The layers of a column where only the backdrop is.
abbrev pub backdrop_pair : {M : Type 0} → LineLayers M → LayerPair
backdrop_pair line =
    record {
      top = line.backdrop;
      top_tag = line.backdrop_tag;
      bottom = line.backdrop;
      bottom_tag = line.backdrop_tag;
    }

-- The layers that the backgrounds of a column make, by what its region permits and the colour of each place.
unfoldable pub background_pair : {M : Type 0} → LineLayers M → ℕ → List Rgb15 → LayerPair
background_pair line region colors =
    let put : ℕ → LayerPair → LayerPair =
    λ k behind. put_background behind (bit k region) (get_or line.places k 0) (line_color colors k) in
    put 0 (put 1 (put 2 (put 3 (backdrop_pair line))))

-- ---- regions

-- Whether flags permit the background of a place, if it has one.
abbrev pub permits_place : ℕ → Option ℕ → Bool
permits_place flags None = false
permits_place flags (Some bg) = permits flags bg

-- The bits of a region's word: bits 0 to 3 are the backgrounds of places 0 to 3, then objects and effects.
abbrev pub objects_bit : ℕ
objects_bit = 4

abbrev pub effects_bit : ℕ
effects_bit = 5

-- What a region permits, by its flags and whether sprites are on.
unfoldable pub region_word : Bool → List (Option ℕ) → ℕ → ℕ
region_word objects at flags =
    2 ^ 0 * as_bit (permits_place flags (get_or at 0 None))
    + 2 ^ 1 * as_bit (permits_place flags (get_or at 1 None))
    + 2 ^ 2 * as_bit (permits_place flags (get_or at 2 None))
    + 2 ^ 3 * as_bit (permits_place flags (get_or at 3 None))
    + 2 ^ objects_bit * as_bit (permits_objects flags && objects)
    + 2 ^ effects_bit * as_bit (permits_effects flags)

-- The word of a column's region.
abbrev pub column_region : Reading → List ℕ → List ℕ → List (Option ℕ) → ℕ → ℕ → ℕ
column_region reading registers entries at line column =
    region_word (enable_obj (dispcnt registers)) at (permitted registers (region_at reading registers entries column line))

-- ---- a column

-- The layers of a column, by its line, what its region permits, its object's tag and colour and the colour of each place.
unfoldable pub column_pair : {M : Type 0} → LineLayers M → ℕ → ℕ → ℕ → List Rgb15 → LayerPair
column_pair line region tag object colors =
    put_object (background_pair line region colors) (bit objects_bit region) tag object

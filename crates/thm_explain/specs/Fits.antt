-- Which reason fits a column, by conditions on the input: region by region, layer by layer, effect by effect, apart from the
-- case that a pixel is made by (02, W-202; 01, "Windows and blending"; GBATEK, "LCD I/O Window Feature", "LCD I/O Color
-- Special Effects"). Assumes nothing.
use Rattle.std.specs.Prelude.{ℕ, ◌+◌, ◌-◌, ◌<◌, ◌≡◌, Bool, true, false, cond, ◌&&◌, ◌||◌, List, [], ◌∷◌, ◌≢◌, eqb, ltb, get_or}
use Rattle.bits.specs.Bits.{bit}
use Rattle.rgb15.specs.Colour.{black, white, is_transparent, to_rgb24, blend_with}
use Rattle.rows.specs.Cells.{cell_at}
use Rattle.memory.specs.Palette.{backdrop}
use Rattle.regs.specs.Registers.{dispcnt, bgcnt, bldcnt, bldalpha, bldy, win0_flags, win1_flags, winobj_flags, winout_flags}
use Rattle.regs.specs.Display.{enable_bg, enable_obj, enable_obj_window, force_blank}
use Rattle.regs.specs.Background.{priority}
use Rattle.regs.specs.Reading.{reading_of, counted}
use Rattle.regs_window.specs.Windows.{permits, permits_effects, everything}
use Rattle.regs_blend.specs.Blend.{target1, target2, blend_mode, eva, evb}
use Rattle.regs_blend.specs.declared.BlendMode.{BlendMode}
use Rattle.regs_blend.specs.declared.BlendMode.TheVariants.{BldNone, BldAlpha, BldWhite, BldBlack}
use Rattle.obj_entries.specs.Entry.{entry_cells, semi_mark, window_mark}
use Rattle.obj_entries.specs.declared.Entry.{Entry}
use Rattle.sfx_regions.specs.Region.{uses_windows, in_window0, in_window1}
use Rattle.gpu_judge.specs.Judge.{Call}
use Rattle.gpu.specs.Line.{color_of}
use Rattle.explain.specs.Reason.{blank_reason}
use Rattle.explain.specs.declared.Reason.{Reason}

-- A column of a draw: what the draw is asked for, the entries as they stand after it, and which column.
pub record Column : Type 0 where
  pub call : Call
  pub after : List ℕ
  pub at : ℕ

-- The registers of the draw.
abbrev pub registers_of : Column → List ℕ
registers_of k = k.call.memory.registers

-- The entry of the column.
abbrev pub entry_of : Column → Entry
entry_of k = cell_at entry_cells k.after k.at

-- ---- region by region

-- Whether window 0 holds the column.
abbrev pub in_first : Column → Bool
in_first k = in_window0 (registers_of k) k.at k.call.line

-- Whether window 1 holds the column, by the reading.
abbrev pub in_second : Column → Bool
in_second k = in_window1 (reading_of k.call.reading) (registers_of k) k.at k.call.line

-- Whether the object window is on and holds the column.
abbrev pub in_objects : Column → Bool
in_objects k = enable_obj_window (dispcnt (registers_of k)) && window_mark (entry_of k)

-- The number of a region that fits: 0 no windows, 1 window 0, 2 window 1, 3 object window, 4 outside.
pub data InRegion (k : Column) : ℕ → Type 0 where
  no_windows : uses_windows (registers_of k) ≡ false → InRegion k 0
  window0 : uses_windows (registers_of k) ≡ true → in_first k ≡ true → InRegion k 1
  window1 : uses_windows (registers_of k) ≡ true → in_first k ≡ false → in_second k ≡ true → InRegion k 2
  object_window : uses_windows (registers_of k) ≡ true → in_first k ≡ false → in_second k ≡ false → in_objects k ≡ true
      → InRegion k 3
  outside : uses_windows (registers_of k) ≡ true → in_first k ≡ false → in_second k ≡ false → in_objects k ≡ false
      → InRegion k 4

-- What the region of a number permits, as flags.
abbrev pub region_flags : Column → ℕ → ℕ
region_flags k region =
    let registers = registers_of k in
    get_or (everything ∷ win0_flags registers ∷ win1_flags registers ∷ winobj_flags registers ∷ winout_flags registers ∷ [])
    region 0

-- ---- layer by layer: backgrounds 0 to 3, objects 4, backdrop 5

-- The colour of a layer at the column.
abbrev pub layer_color : Column → ℕ → ℕ
layer_color k n =
    get_or
    (color_of k.call 0 k.at
    ∷ color_of k.call 1 k.at
    ∷ color_of k.call 2 k.at
    ∷ color_of k.call 3 k.at
    ∷ (entry_of k).color.0
    ∷ backdrop k.call.memory.palette
    ∷ [])
    n 0

-- Its priority number: the backdrop's is 4.
abbrev pub layer_priority : Column → ℕ → ℕ
layer_priority k n =
    let registers = registers_of k in
    get_or
    (priority (bgcnt registers 0)
    ∷ priority (bgcnt registers 1)
    ∷ priority (bgcnt registers 2)
    ∷ priority (bgcnt registers 3)
    ∷ (entry_of k).priority
    ∷ 4
    ∷ [])
    n 4

-- A layer shows if it is on, the region permits it, and its pixel is opaque; the backdrop always does.
pub data LayerShows (k : Column) (flags : ℕ) : ℕ → Type 0 where
  shows_background : (bg : ℕ) → bg < 4 → get_or (enable_bg (dispcnt (registers_of k))) bg false ≡ true → permits flags bg ≡ true
      → is_transparent (layer_color k bg) ≡ false → LayerShows k flags bg
  shows_objects : enable_obj (dispcnt (registers_of k)) ≡ true → permits flags 4 ≡ true → is_transparent (layer_color k 4) ≡ false
      → LayerShows k flags 4
  shows_backdrop : LayerShows k flags 5

-- Of equal priority objects come first, then backgrounds by number.
abbrev pub rank : ℕ → ℕ
rank n = cond (eqb n 4) 0 (n + 1)

-- Whether layer m is in front of layer n.
abbrev pub in_front : Column → ℕ → ℕ → Bool
in_front k m n =
    ltb (layer_priority k m) (layer_priority k n)
    || (eqb (layer_priority k m) (layer_priority k n) && ltb (rank m) (rank n))

-- A layer is on top if it shows and is in front of every other that shows.
pub record Top (k : Column) (flags n : ℕ) : Type 0 where
  pub shows : LayerShows k flags n
  pub first : (m : ℕ) → LayerShows k flags m → m ≢ n → in_front k n m ≡ true

-- A layer is the bottom under a top if it shows and is in front of every other that shows but the top; where the backdrop is
-- the top, it is the bottom too.
pub data Bottom (k : Column) (flags top : ℕ) : ℕ → Type 0 where
  under : (n : ℕ) → top ≢ 5 → LayerShows k flags n → n ≢ top
      → ((m : ℕ) → LayerShows k flags m → m ≢ top → m ≢ n → in_front k n m ≡ true) → Bottom k flags top n
  alone : top ≡ 5 → Bottom k flags top 5

-- ---- effect by effect

-- Whether a layer is a first target.
abbrev pub is_first : Column → ℕ → Bool
is_first k n = bit n (target1 (bldcnt (registers_of k)))

-- Whether a layer is a second target.
abbrev pub is_second : Column → ℕ → Bool
is_second k n = bit n (target2 (bldcnt (registers_of k)))

-- Whether the top is a semi-transparent object and the bottom a second target.
abbrev pub blends_sprite : Column → ℕ → ℕ → Bool
blends_sprite k top bottom = (eqb top 4 && semi_mark (entry_of k)) && is_second k bottom

-- Whether the control's effect applies: where permitted, and to a first target.
abbrev pub applies : Column → ℕ → ℕ → Bool
applies k flags top = permits_effects flags && is_first k top

-- The effect that the control names.
abbrev pub control_mode : Column → BlendMode
control_mode k = blend_mode (bldcnt (registers_of k))

-- The number of an effect that fits: 0 none, 1 sprite blend, 2 control blend, 3 white, 4 black.
pub data HasEffect (k : Column) (flags top bottom : ℕ) : ℕ → Type 0 where
  sprite_blended : blends_sprite k top bottom ≡ true → HasEffect k flags top bottom 1
  control_blended : blends_sprite k top bottom ≡ false → applies k flags top ≡ true → control_mode k ≡ BldAlpha
      → is_second k bottom ≡ true → HasEffect k flags top bottom 2
  whitened : blends_sprite k top bottom ≡ false → applies k flags top ≡ true → control_mode k ≡ BldWhite
      → HasEffect k flags top bottom 3
  blackened : blends_sprite k top bottom ≡ false → applies k flags top ≡ true → control_mode k ≡ BldBlack
      → HasEffect k flags top bottom 4
  not_applied : blends_sprite k top bottom ≡ false → applies k flags top ≡ false → HasEffect k flags top bottom 0
  no_effect : blends_sprite k top bottom ≡ false → control_mode k ≡ BldNone → HasEffect k flags top bottom 0
  no_second : blends_sprite k top bottom ≡ false → control_mode k ≡ BldAlpha
      → is_second k bottom ≡ false → HasEffect k flags top bottom 0

-- What an effect multiplies the top's colour by, by its number.
abbrev pub top_weight : Column → ℕ → ℕ
top_weight k effect =
    let reading = reading_of k.call.reading in
    let alpha = counted reading (eva (bldalpha (registers_of k))) in
    let rest = 16 - counted reading (bldy (registers_of k)) in
    get_or (16 ∷ alpha ∷ alpha ∷ rest ∷ rest ∷ []) effect 0

-- What it multiplies the other colour by.
abbrev pub other_weight : Column → ℕ → ℕ
other_weight k effect =
    let reading = reading_of k.call.reading in
    let beta = counted reading (evb (bldalpha (registers_of k))) in
    let evy = counted reading (bldy (registers_of k)) in
    get_or (0 ∷ beta ∷ beta ∷ evy ∷ evy ∷ []) effect 0

-- ---- the colour from the reason alone

-- What the top is blended with, by the effect's number: the bottom, white, black; without an effect its weight is 0.
abbrev pub toward : ℕ → ℕ → ℕ
toward effect bottom = get_or (black ∷ bottom ∷ bottom ∷ white ∷ black ∷ []) effect 0

-- The pixel that follows from a reason: from nothing but its effect, its two colours and its two weights, or from forced
-- blank.
unfoldable pub worked_out : Reason → ℕ
worked_out r =
    cond (eqb r.blank 1)
    0xf8f8f8
    (to_rgb24 (blend_with r.top_color (toward r.effect r.bottom_color) r.first_weight r.second_weight))

-- ---- the reason

-- A reason with layers fits a column: each of its numbers does.
pub record FitsShown (k : Column) (r : Reason) : Type 0 where
  pub number_is : r.number ≡ 0
  pub blank_is : r.blank ≡ 0
  pub region_fits : InRegion k r.region
  pub top_fits : Top k (region_flags k r.region) r.top
  pub bottom_fits : Bottom k (region_flags k r.region) r.top r.bottom
  pub effect_fits : HasEffect k (region_flags k r.region) r.top r.bottom r.effect
  pub top_color_is : r.top_color ≡ layer_color k r.top
  pub bottom_color_is : r.bottom_color ≡ layer_color k r.bottom
  pub first_weight_is : r.first_weight ≡ top_weight k r.effect
  pub second_weight_is : r.second_weight ≡ other_weight k r.effect
  pub pixel_is : r.pixel ≡ worked_out r

-- A reason fits a column of a draw that isn't refused: under forced blank the one that names no layer.
pub data Fits (k : Column) (r : Reason) : Type 0 where
  blank : force_blank (dispcnt (registers_of k)) ≡ true → r ≡ blank_reason → Fits k r
  shown : force_blank (dispcnt (registers_of k)) ≡ false → FitsShown k r → Fits k r

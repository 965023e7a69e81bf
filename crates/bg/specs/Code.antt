-- As code has it: what backgrounds and their pixels are drawn from (01, "Backgrounds").
-- No exported contract reaches this file. Assumes nothing.
use Rattle.std.specs.Prelude.{ℕ, ◌≤◌, ◌<◌, ◌≡◌, Bool, true, List, ℤ}
use Rattle.signed.specs.Signed.{in_range}
use Rattle.regs.specs.Registers.{dispcnt, pa, pc}
use Rattle.regs.specs.Display.{mode}
use Rattle.regs.specs.Background.{character_base_block, screen_base_block, affine_wraparound, size, char_block, screen_block}
use Rattle.regs.specs.declared.DisplayControl.{DisplayControl}
use Rattle.bg_points.specs.Code.{Side}
use Rattle.bg_points.specs.Point.{transform_bg_point, point_color}
use Rattle.bg_points.specs.References.{in_ranges}
use Rattle.bg_points.specs.declared.ViewPort.{ViewPort}
use Rattle.bg_points.specs.declared.references.References.{References}
use Rattle.bg.specs.Affine.{affine_side}
use Rattle.bg.specs.Bitmap.{bitmap_width, bitmap_height, bitmap_start}
use Rattle.bg.specs.Background.{reference_x, reference_y}
use Rattle.bg.specs.declared.affine.AffinePicture.{AffinePicture}
use Rattle.bg.specs.declared.bitmap.Bitmap.{Bitmap}
use Rattle.bg.specs.declared.steps.BgAffine.{BgAffine}

-- What a background's line is drawn from.
pub record Drawable (registers : List ℕ) (references : References) (bg line : ℕ) : Type 0 where
  pub mode< : mode (dispcnt registers) < 6
  pub ranges : in_ranges references ≡ true
  pub bg< : bg < 4
  pub line< : line < 160

-- The reference numbers of background 2 or 3, and what a column adds to each.
pub record BgAffineOf (registers : List ℕ) (references : References) (bg : ℕ) (a : BgAffine) : Type 0 where
  pub x_is : a.x ≡ reference_x references bg
  pub y_is : a.y ≡ reference_y references bg
  pub pa_is : a.pa ≡ pa registers bg
  pub pc_is : a.pc ≡ pc registers bg

-- Both reference numbers are in range.
pub record Liftable (a : BgAffine) : Type 0 where
  pub x_in : in_range a.x ≡ true
  pub y_in : in_range a.y ≡ true

-- ---- pictures, of any kind

-- The colour at a point.
abbrev pub view_color : ViewPort → (ℕ → ℕ → ℕ) → ℤ → ℤ → ℕ
view_color v pixel x y = point_color v.wraparound v.w v.h pixel x y

-- The colour at a column.
abbrev pub picture_color : ViewPort → (ℕ → ℕ → ℕ) → BgAffine → ℕ → ℕ
picture_color v pixel a column = view_color v pixel (transform_bg_point a.x a.pa column) (transform_bg_point a.y a.pc column)

-- ---- affine backgrounds

-- An affine background is what its control says.
pub record AffineOf (control : ℕ) (p : AffinePicture) : Type 0 where
  pub screen_is : p.screen_block ≡ screen_block (screen_base_block control)
  pub tiles_is : p.char_block ≡ char_block (character_base_block control)
  pub w_is : p.viewport.w ≡ affine_side (size control)
  pub h_is : p.viewport.h ≡ affine_side (size control)
  pub wraparound_is : p.viewport.wraparound ≡ affine_wraparound control

-- Its map and its tiles lie in video memory.
pub record AffineDrawn (p : AffinePicture) : Type 0 where
  pub screen≤ : p.screen_block ≤ 0xf800
  pub tiles≤ : p.char_block ≤ 0xc000
  pub h_is : p.viewport.h ≡ p.viewport.w
  pub w≤ : p.viewport.w ≤ 1024
  pub w_side : Side p.viewport.w
  pub h_side : Side p.viewport.h

-- ---- bitmaps

-- A mode's picture has its width and height, and repeats if the wrap bit is set.
pub record BitmapViewPort (mode : ℕ) (wraparound : Bool) (v : ViewPort) : Type 0 where
  pub w_is : v.w ≡ bitmap_width mode
  pub h_is : v.h ≡ bitmap_height mode
  pub wraparound_is : v.wraparound ≡ wraparound

-- A bitmap is what the display control and its own say.
pub record BitmapOf (d : DisplayControl) (control : ℕ) (p : Bitmap) : Type 0 where
  pub mode_is : p.mode ≡ d.mode
  pub page_is : p.page ≡ bitmap_start d.mode d.display_frame_select
  pub viewport_is : BitmapViewPort d.mode (affine_wraparound control) p.viewport

-- Its frame lies in video memory, no side is longer than the screen's, and the bias of a coordinate is a multiple of each.
pub record BitmapDrawn (p : Bitmap) : Type 0 where
  pub page≤ : p.page ≤ 0xa000
  pub w≤ : p.viewport.w ≤ 240
  pub w_side : Side p.viewport.w
  pub h≤ : p.viewport.h ≤ 160
  pub h_side : Side p.viewport.h

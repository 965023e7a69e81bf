-- Display control, by its word (01, "Backgrounds" to "Windows and blending"; GBATEK, "LCD I/O Display Control").
-- Assumes nothing.
use Rattle.std.specs.Prelude.{ℕ, ◌≡◌, Bool, true, false, ◌||◌, List, [], ◌∷◌}
use Rattle.bits.specs.Bits.{bits, bit}
use Rattle.regs.specs.declared.DisplayControl.{DisplayControl}
use Rattle.regs.specs.declared.ObjMapping.{ObjMapping}
use Rattle.regs.specs.declared.ObjMapping.TheVariants.{TwoDimension, OneDimension}

-- The mode is bits 0-2 (LCD I/O Display Control).
abbrev pub mode : ℕ → ℕ
mode w = bits 2 0 w

-- The frame bit is bit 4 (LCD I/O Display Control).
abbrev pub display_frame_select : ℕ → ℕ
display_frame_select w = bits 4 4 w

-- Bit 5: whether the H-blank interval is free (LCD I/O Display Control).
abbrev pub hblank_interval_free : ℕ → Bool
hblank_interval_free w = bit 5 w

-- Bit 6: whether sprite tiles are mapped in one dimension (LCD I/O Display Control).
abbrev pub obj_character_vram_mapping : ℕ → Bool
obj_character_vram_mapping w = bit 6 w

-- Forced blank is bit 7 (LCD I/O Display Control).
abbrev pub force_blank : ℕ → Bool
force_blank w = bit 7 w

-- Bits 8-11: whether backgrounds 0 to 3 are on (LCD I/O Display Control).
abbrev pub enable_bg : ℕ → List Bool
enable_bg w = bit 8 w ∷ bit 9 w ∷ bit 10 w ∷ bit 11 w ∷ []

-- Bit 12: whether sprites are on (LCD I/O Display Control).
abbrev pub enable_obj : ℕ → Bool
enable_obj w = bit 12 w

-- Bit 13: whether window 0 is on (LCD I/O Display Control).
abbrev pub enable_window0 : ℕ → Bool
enable_window0 w = bit 13 w

-- Bit 14: whether window 1 is on (LCD I/O Display Control).
abbrev pub enable_window1 : ℕ → Bool
enable_window1 w = bit 14 w

-- Bit 15: whether the object window is on (LCD I/O Display Control).
abbrev pub enable_obj_window : ℕ → Bool
enable_obj_window w = bit 15 w

-- A display control is what its word says.
pub record DisplayControlOf (w : ℕ) (d : DisplayControl) : Type 0 where
  pub mode_is : d.mode ≡ mode w
  pub frame_is : d.display_frame_select ≡ display_frame_select w
  pub hblank_is : d.hblank_interval_free ≡ hblank_interval_free w
  pub mapping_is : d.obj_character_vram_mapping ≡ obj_character_vram_mapping w
  pub blank_is : d.force_blank ≡ force_blank w
  pub bg_is : d.enable_bg ≡ enable_bg w
  pub obj_is : d.enable_obj ≡ enable_obj w
  pub window0_is : d.enable_window0 ≡ enable_window0 w
  pub window1_is : d.enable_window1 ≡ enable_window1 w
  pub obj_window_is : d.enable_obj_window ≡ enable_obj_window w

-- Any window on: window 0, window 1 or the object window (LCD I/O Display Control).
abbrev pub is_using_windows : Bool → Bool → Bool → Bool
is_using_windows window0 window1 objWindow = (window0 || window1) || objWindow

-- The mapping by its bit: 0 is two-dimensional, 1 one-dimensional (LCD I/O Display Control).
abbrev pub obj_mapping : Bool → ObjMapping
obj_mapping false = TwoDimension
obj_mapping true = OneDimension

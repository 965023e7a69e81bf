-- Windows: which columns and rows a window holds, and what it permits (01, "Windows and blending"; GBATEK,
-- "LCD I/O Window Feature"). Assumes nothing.
use Rattle.std.specs.Prelude.{ℕ, ◌≡◌, Bool, cond, ◌||◌, ◌&&◌, List, leb, ltb}
use Rattle.bits.specs.Bits.{bits, bit}
use Rattle.memory.specs.Sizes.{display_width, display_height}
use Rattle.regs.specs.Registers.{win0h, win0v, win0_flags, win1h, win1v, win1_flags}
use Rattle.regs_window.specs.declared.Window.{Window}

-- The left edge is the high byte of H (LCD I/O Window Feature).
abbrev pub window_left : ℕ → ℕ
window_left h = bits 15 8 h

-- The right edge is the low byte of H (LCD I/O Window Feature).
abbrev pub window_right : ℕ → ℕ
window_right h = bits 7 0 h

-- The top is the high byte of V (LCD I/O Window Feature).
abbrev pub window_top : ℕ → ℕ
window_top v = bits 15 8 v

-- The bottom is the low byte of V (LCD I/O Window Feature).
abbrev pub window_bottom : ℕ → ℕ
window_bottom v = bits 7 0 v

-- A window is what its words H and V say, and permits what its flags say.
pub record WindowOf (h v flags : ℕ) (w : Window) : Type 0 where
  pub left_is : w.left ≡ window_left h
  pub right_is : w.right ≡ window_right h
  pub top_is : w.top ≡ window_top v
  pub bottom_is : w.bottom ≡ window_bottom v
  pub flags_are : w.flags.0 ≡ flags

-- Window 0 as the registers have it.
abbrev pub Window0Of : List ℕ → Window → Type 0
Window0Of registers w = WindowOf (win0h registers) (win0v registers) (win0_flags registers) w

-- Window 1 as the registers have it.
abbrev pub Window1Of : List ℕ → Window → Type 0
Window1Of registers w = WindowOf (win1h registers) (win1v registers) (win1_flags registers) w

-- A far edge above the screen's or below the near one counts as the screen's (LCD I/O Window Feature).
unfoldable pub far_edge : ℕ → ℕ → ℕ → ℕ
far_edge screen near far = cond (ltb screen far || ltb far near) screen far

-- A right edge above 240 or below the left counts as 240 (LCD I/O Window Feature).
abbrev pub right_edge : ℕ → ℕ → ℕ
right_edge left right = far_edge display_width left right

-- A bottom above 160 or below the top counts as 160 (LCD I/O Window Feature).
abbrev pub bottom_edge : ℕ → ℕ → ℕ
bottom_edge top bottom = far_edge display_height top bottom

-- A window runs from its near edge to its far one, which is exclusive (LCD I/O Window Feature).
abbrev pub inside : ℕ → ℕ → ℕ → ℕ → Bool
inside screen near far at = leb near at && ltb at (far_edge screen near far)

-- The columns of a window lie between its left and its right edge (LCD I/O Window Feature).
abbrev pub in_columns : ℕ → ℕ → ℕ → Bool
in_columns left right column = inside display_width left right column

-- The rows of a window lie between its top and its bottom (LCD I/O Window Feature).
abbrev pub in_rows : ℕ → ℕ → ℕ → Bool
in_rows top bottom row = inside display_height top bottom row

-- Flags permit by their bits: backgrounds 0 to 3, objects 4, effects 5 (LCD I/O Window Feature).
abbrev pub permits : ℕ → ℕ → Bool
permits flags n = bit n flags

-- Whether flags permit objects (LCD I/O Window Feature).
abbrev pub permits_objects : ℕ → Bool
permits_objects flags = permits flags 4

-- Whether flags permit effects (LCD I/O Window Feature).
abbrev pub permits_effects : ℕ → Bool
permits_effects flags = permits flags 5

-- The flags that permit everything (LCD I/O Window Feature).
abbrev pub everything : ℕ
everything = 0x3f

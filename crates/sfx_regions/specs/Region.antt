-- The region that a column belongs to, and what it permits (01, "Windows and blending", "Two readings"; GBATEK, "LCD I/O
-- Window Feature"). Assumes nothing.
use Rattle.std.specs.Prelude.{ℕ, Bool, cond, not, ◌&&◌, List}
use Rattle.regs.specs.Registers.{dispcnt, win0h, win0v, win1h, win1v, win0_flags, win1_flags, winobj_flags, winout_flags}
use Rattle.regs.specs.Display.{enable_window0, enable_window1, enable_obj_window, is_using_windows}
use Rattle.regs_window.specs.Windows.{window_left, window_right, window_top, window_bottom, in_columns, in_rows, everything}
use Rattle.regs.specs.declared.reading.Reading.{Reading}
use Rattle.regs.specs.declared.reading.Reading.TheVariants.{R, H}
use Rattle.sfx_regions.specs.declared.WindowType.{WindowType}
use Rattle.sfx_regions.specs.declared.WindowType.TheVariants.{Win0, Win1, WinObj, WinOut, WinNone}

-- Whether any window is on (LCD I/O Display Control).
abbrev pub uses_windows : List ℕ → Bool
uses_windows registers =
    is_using_windows
    (enable_window0 (dispcnt registers))
    (enable_window1 (dispcnt registers))
    (enable_obj_window (dispcnt registers))

-- Whether window 0 is on and holds the column and the line.
unfoldable pub in_window0 : List ℕ → ℕ → ℕ → Bool
in_window0 registers column line =
    (enable_window0 (dispcnt registers) && in_rows (window_top (win0v registers)) (window_bottom (win0v registers)) line)
    && in_columns (window_left (win0h registers)) (window_right (win0h registers)) column

-- Window 1's columns, as their word: R walks window 0's, window 0 on or off; H uses window 1's own (DIFFERENCES, 1).
unfoldable pub window1_columns : Reading → List ℕ → ℕ
window1_columns R registers = win0h registers
window1_columns H registers = win1h registers

-- Whether window 1 is on and holds the column and the line.
unfoldable pub in_window1 : Reading → List ℕ → ℕ → ℕ → Bool
in_window1 reading registers column line =
    let h = window1_columns reading registers in
    (enable_window1 (dispcnt registers) && in_rows (window_top (win1v registers)) (window_bottom (win1v registers)) line)
    && in_columns (window_left h) (window_right h) column

-- With any window on, a column belongs to the first of: window 0, window 1, object window (by the entry's mark, even with
-- sprites off), outside.
unfoldable pub region : Reading → List ℕ → Bool → ℕ → ℕ → WindowType
region reading registers mark column line =
    cond (not (uses_windows registers)) WinNone
    (cond (in_window0 registers column line) Win0
    (cond (in_window1 reading registers column line) Win1
    (cond (enable_obj_window (dispcnt registers) && mark) WinObj
    WinOut)))

-- What a region permits, as flags; with no window on, everything.
unfoldable pub permitted : List ℕ → WindowType → ℕ
permitted registers Win0 = win0_flags registers
permitted registers Win1 = win1_flags registers
permitted registers WinObj = winobj_flags registers
permitted registers WinOut = winout_flags registers
permitted registers WinNone = everything

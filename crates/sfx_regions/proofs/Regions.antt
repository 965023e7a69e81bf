-- Laws of a line's row of words. No contract cites this file. Assumes nothing.
use Prim.Native.Nat.{ℕ}
use mathlib.Core.Path.{◌≡◌, refl, sym, ◌∙◌}
use mathlib.Core.Bool.{Bool, true, false, cond, ◌&&◌}
use mathlib.Core.List.{List}
use lib.ListN.{replicate}
use Rattle.rows.specs.Cells.{cell_at}
use Rattle.rows.proofs.Tab.{tab_cong, tab_replicate}
use Rattle.regs.specs.Registers.{dispcnt}
use Rattle.regs.specs.Display.{enable_obj_window, is_using_windows, DisplayControlOf}
use Rattle.regs.specs.declared.DisplayControl.{DisplayControl}
use Rattle.regs.specs.declared.reading.Reading.{Reading}
use Rattle.obj_entries.specs.Entry.{entry_cells, window_mark}
use Rattle.sfx_regions.specs.Region.{region, uses_windows, in_window0, in_window1}
use Rattle.sfx_regions.specs.Code.{word_in, region_row, ColumnsOf, walked_word, walked_row}
use Rattle.sfx_marks.specs.declared.columns.Columns.{Columns}
use Rattle.sfx_regions.specs.declared.RegionWords.{RegionWords}
use Rattle.sfx_regions.specs.declared.WindowType.{WindowType}
use Rattle.sfx_regions.specs.declared.WindowType.TheVariants.{Win0, Win1, WinObj, WinOut, WinNone}

-- The word of the first region that a test picks.
word_in_first : (words : RegionWords) (in0 in1 inObj : Bool)
    → cond in0 words.win0 (cond in1 words.win1 (cond inObj words.winobj words.winout))
    ≡ word_in words (cond in0 Win0 (cond in1 Win1 (cond inObj WinObj WinOut)))
unfolding word_in
word_in_first words true in1 inObj = refl
word_in_first words false true inObj = refl
word_in_first words false false true = refl
word_in_first words false false false = refl

-- Whether windows are on, from what two calls gave.
pub uses_windows_is : (registers : List ℕ) {d : DisplayControl} {t : Bool} → DisplayControlOf (dispcnt registers) d
    → t ≡ is_using_windows d.enable_window0 d.enable_window1 d.enable_obj_window
    → uses_windows registers ≡ t
uses_windows_is registers display e = sym (rw (display.window0_is, display.window1_is, display.obj_window_is) at e)

-- Words that are f of each region.
module _ (f : WindowType → ℕ) (words : RegionWords) (win0-is : words.win0 ≡ f Win0) (win1-is : words.win1 ≡ f Win1)
    (winobj-is : words.winobj ≡ f WinObj) (winout-is : words.winout ≡ f WinOut) (winnone-is : words.winnone ≡ f WinNone) where
  pub word_in_each : (kind : WindowType) → word_in words kind ≡ f kind
  unfolding word_in
  word_in_each Win0 = win0-is
  word_in_each Win1 = win1-is
  word_in_each WinObj = winobj-is
  word_in_each WinOut = winout-is
  word_in_each WinNone = winnone-is

module _ (reading : Reading) (registers entries : List ℕ) (line : ℕ) (words : RegionWords) where
  -- With no window on.
  pub region_row_none : uses_windows registers ≡ false
      → replicate 240 words.winnone ≡ region_row reading registers entries line words
  unfolding region word_in
  region_row_none none = tab_replicate words.winnone 240 ∙ tab_cong _ _ 240 (λ k lt. rw none)

  -- With windows on, the row that the walk gives.
  pub region_row_walked : {objWindow : Bool} {win0 win1 : Columns} {row : List ℕ}
      → uses_windows registers ≡ true
      → objWindow ≡ enable_obj_window (dispcnt registers)
      → ColumnsOf (λ k. in_window0 registers k line) win0
      → ColumnsOf (λ k. in_window1 reading registers k line) win1
      → row ≡ walked_row entries objWindow win0 win1 words
      → row ≡ region_row reading registers entries line words
  unfolding region walked_word
  region_row_walked on obj_is first second e =
      e
      ∙ tab_cong _ _ 240 (λ k lt.
      rw (on, first.same k, second.same k, obj_is)
      (word_in_first words (in_window0 registers k line) (in_window1 reading registers k line)
      (enable_obj_window (dispcnt registers) && window_mark (cell_at entry_cells entries k))))

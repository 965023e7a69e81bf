-- As code has it: a line as a word a column, and the columns that each window claims (01, "Windows and blending"; GBATEK,
-- "LCD I/O Window Feature").
-- No exported contract reaches this file. Assumes nothing.
use Rattle.std.specs.Prelude.{ℕ, List, ◌≡◌, Bool, cond, ◌&&◌}
use Rattle.rows.specs.Cells.{cell_at}
use Rattle.rows.specs.Tab.{tab}
use Rattle.memory.specs.Sizes.{display_width}
use Rattle.regs.specs.declared.reading.Reading.{Reading}
use Rattle.obj_entries.specs.Entry.{entry_cells, window_mark}
use Rattle.sfx_regions.specs.Region.{region}
use Rattle.sfx_regions.specs.declared.RegionWords.{RegionWords}
use Rattle.sfx_regions.specs.declared.WindowType.{WindowType}
use Rattle.sfx_regions.specs.declared.WindowType.TheVariants.{Win0, Win1, WinObj, WinOut, WinNone}
use Rattle.sfx_marks.specs.Code.{holds}
use Rattle.sfx_marks.specs.declared.columns.Columns.{Columns}

-- The word of a region.
unfoldable pub word_in : RegionWords → WindowType → ℕ
word_in words Win0 = words.win0
word_in words Win1 = words.win1
word_in words WinObj = words.winobj
word_in words WinOut = words.winout
word_in words WinNone = words.winnone

-- The region of a column, by the mark of its entry.
abbrev pub region_at : Reading → List ℕ → List ℕ → ℕ → ℕ → WindowType
region_at reading registers entries column line =
    region reading registers (window_mark (cell_at entry_cells entries column)) column line

-- The row of a line: the words of its 240 columns.
abbrev pub region_row : Reading → List ℕ → List ℕ → ℕ → RegionWords → List ℕ
region_row reading registers entries line words =
    tab (λ column. word_in words (region_at reading registers entries column line)) display_width

-- Columns are those that the test picks.
pub record ColumnsOf (test : ℕ → Bool) (c : Columns) : Type 0 where
  pub same : (k : ℕ) → holds c k ≡ test k

-- A column's word with windows on: of the first of window 0's columns, window 1's, and the object window that hold it.
unfoldable pub walked_word : List ℕ → Bool → Columns → Columns → RegionWords → ℕ → ℕ
walked_word entries objWindow win0 win1 words k =
    cond (holds win0 k) words.win0
    (cond (holds win1 k) words.win1
    (cond (objWindow && window_mark (cell_at entry_cells entries k)) words.winobj words.winout))

-- The words of the 240 columns.
abbrev pub walked_row : List ℕ → Bool → Columns → Columns → RegionWords → List ℕ
walked_row entries objWindow win0 win1 words = tab (walked_word entries objWindow win0 win1 words) 240

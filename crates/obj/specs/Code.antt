-- As code has it: what the steps of the pass make of a row of entries, and what they pass by (01, "Sprites").
-- No exported contract reaches this file. Assumes nothing.
use Rattle.std.specs.Prelude.{ℕ, ◌+◌, ◌-◌, ◌≤◌, ◌<◌, ◌≡◌, Bool, true, cond, List, get_or}
use Rattle.rgb15.specs.Colour.{rgb}
use Rattle.rgb15.specs.declared.Rgb15.{Rgb15}
use Rattle.rows.specs.Below.{between}
use Rattle.rows.specs.Cells.{cell_at, put_cell, only, map_row}
use Rattle.obj_entries.specs.Entry.{entry_cells}
use Rattle.obj_entries.specs.declared.Entry.{Entry}
use Rattle.obj_sprites.specs.declared.attrs.ObjAttrs.{ObjAttrs}
use Rattle.obj_sprites.specs.declared.attrs.ObjMode.{ObjMode}
use Rattle.obj.specs.Put.{passed_over, put_pixel}

-- ---- what a row becomes

-- The mode of the pixels that are put: those of a window sprite, or of a visible one by the semi-transparent mark.
abbrev pub mode_of : Bool → Bool → ObjMode
mode_of window alpha = cond window ObjMode.Window (cond alpha ObjMode.Sfx ObjMode.Normal)

-- The row with a pixel put in the entry of a column.
abbrev pub put_column : ObjMode → ℕ → ℕ → List ℕ → ℕ → List ℕ
put_column mode priority color entries column =
    put_cell entry_cells entries column (put_pixel mode priority color (cell_at entry_cells entries column))

-- The row with a sprite's pixel of each column put in its entry.
abbrev pub put_row : ObjAttrs → (ℕ → ℕ) → List ℕ → List ℕ
put_row s color entries =
    map_row entry_cells (λ column. put_pixel s.objmode s.priority (color column)) 240 entries

-- What a box, whose left edge is left less 272, makes of the entry of a column.
abbrev pub box_pixel : ObjMode → ℕ → List Rgb15 → ℕ → ℕ → Entry → Entry
box_pixel mode priority colors left column = put_pixel mode priority (get_or colors (column + 272 - left) (rgb 0)).0

-- The row with the colours of a box put in the columns from start up to end.
abbrev pub put_box : ObjMode → ℕ → List Rgb15 → ℕ → ℕ → ℕ → List ℕ → List ℕ
put_box mode priority colors left start end =
    map_row entry_cells (only (between start end) (box_pixel mode priority colors left)) 240

-- ---- what is passed by

-- What holds of each number from a up to b.
abbrev pub Each : (ℕ → Type 0) → ℕ → ℕ → Type 0
Each P a b = (n : ℕ) → a ≤ n → n < b → P n

-- A walk from a towards b came to r, by numbers of each of which P holds.
pub record Walked (P : ℕ → Type 0) (a b r : ℕ) : Type 0 where
  pub from : a ≤ r
  pub to : r ≤ b
  pub passed : Each P a r

-- A walk back from b towards a came to r.
pub record WalkedBack (P : ℕ → Type 0) (a b r : ℕ) : Type 0 where
  pub from : a ≤ r
  pub to : r ≤ b
  pub passed : Each P r b

-- A column is closed to sprites of a priority: its entry's is no greater.
abbrev pub Closed : List ℕ → ℕ → ℕ → Type 0
Closed entries priority k = (cell_at entry_cells entries k).priority ≤ priority

-- A sprite is passed over at a column.
abbrev pub PassedOver : List ℕ → ObjAttrs → ℕ → Type 0
PassedOver entries s k = passed_over s.objmode s.priority (cell_at entry_cells entries k) ≡ true

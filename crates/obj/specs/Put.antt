-- What sprites make of an entry (01, "Sprites"; GBATEK, "LCD OBJ - OAM Attributes"). Assumes nothing.
use Rattle.std.specs.Prelude.{ℕ, zero, suc, Bool, true, false, cond, ◌||◌, List, leb}
use Rattle.bits.specs.Bits.{put_bit}
use Rattle.rgb15.specs.Colour.{rgb, is_transparent}
use Rattle.rows.specs.Cells.{cell_at, row_of}
use Rattle.regs.specs.declared.reading.Reading.{Reading}
use Rattle.memory.specs.Sizes.{display_width}
use Rattle.obj_sprites.specs.Oam.{obj_count}
use Rattle.obj_sprites.specs.Attrs.{sprite}
use Rattle.obj_sprites.specs.Sprite.{Source, sprite_color}
use Rattle.obj_entries.specs.Entry.{entry_cells}
use Rattle.obj_sprites.specs.declared.attrs.ObjMode.{ObjMode}
use Rattle.obj_entries.specs.declared.Entry.{Entry}

-- A non-window sprite is passed over where the entry's priority is less than or equal to its own; a window sprite tests
-- no priority.
unfoldable pub passed_over : ObjMode → ℕ → Entry → Bool
passed_over ObjMode.Normal priority e = leb e.priority priority
passed_over ObjMode.Sfx priority e = leb e.priority priority
passed_over ObjMode.Window priority e = false
passed_over ObjMode.Forbidden priority e = leb e.priority priority

-- The entry with colour and priority, and the semi-transparent mark set or cleared; the other marks stay.
unfoldable pub shown_by : Bool → ℕ → ℕ → Entry → Entry
shown_by semi priority color e = record { color = rgb color; priority = priority; marks = put_bit 0 semi e.marks }

-- The entry with the window mark set and all else as it was.
unfoldable pub windowed : Entry → Entry
windowed e = record { color = e.color; priority = e.priority; marks = put_bit 1 true e.marks }

-- A window sprite sets only the window mark; an ordinary one clears the semi-transparent mark, and a semi-transparent
-- one sets it.
unfoldable pub written : ObjMode → ℕ → ℕ → Entry → Entry
written ObjMode.Normal priority color e = shown_by false priority color e
written ObjMode.Sfx priority color e = shown_by true priority color e
written ObjMode.Window priority color e = windowed e
written ObjMode.Forbidden priority color e = e

-- What a sprite's pixel makes of the entry: one that is transparent, or passed over, nothing.
unfoldable pub put_pixel : ObjMode → ℕ → ℕ → Entry → Entry
put_pixel mode priority color e =
    cond (passed_over mode priority e || is_transparent color) e (written mode priority color e)

-- What sprite n makes of the entry of a column.
unfoldable pub sprite_step : Reading → Source → ℕ → ℕ → ℕ → Entry → Entry
sprite_step reading o line n column e =
    let s = sprite o.oam n in put_pixel s.objmode s.priority (sprite_color reading o line n column) e

-- Sprites run in OAM order: what the first n make of the entry of a column.
unfoldable pub entry_up_to : Reading → Source → ℕ → ℕ → ℕ → Entry → Entry
entry_up_to reading o line zero column e = e
entry_up_to reading o line (suc n) column e = sprite_step reading o line n column (entry_up_to reading o line n column e)

-- The row with the pixels of the 128 sprites put in its entries.
abbrev pub put_sprites : Reading → Source → ℕ → List ℕ → List ℕ
put_sprites reading o line entries =
    row_of entry_cells (λ column. entry_up_to reading o line obj_count column (cell_at entry_cells entries column)) display_width

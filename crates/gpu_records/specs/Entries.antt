-- Entry records, and the bytes that they stand for (01, "What one draw takes and gives", "What must change shape").
-- Assumes nothing.
use Rattle.std.specs.Prelude.{ℕ, ◌+◌, min, cond, List, length, get_or}
use Rattle.rgb15.specs.Colour.{rgb}
use Rattle.rows.specs.Cells.{cell_at, row_of}
use Rattle.rows.specs.Tab.{tab}
use Rattle.memory.specs.Sizes.{display_width}
use Rattle.obj_entries.specs.Entry.{entry_cells, reset_entry, semi_mark, window_mark}
use Rattle.obj_entries.specs.declared.Entry.{Entry}
use Rattle.gpu_records.specs.declared.entry.ObjBufferEntry.{ObjBufferEntry}

-- The entry of a record. A priority that a byte doesn't hold counts as 255, which no well-shaped entry has: so a record of
-- 256 and more is ill shaped, as it is before it is narrowed.
unfoldable pub entry_of_record : ObjBufferEntry → Entry
entry_of_record r =
    record {
      color = rgb r.color.0;
      priority = min 255 r.priority;
      marks = cond r.alpha 1 0 + cond r.window 2 0;
    }

-- The record of an entry.
unfoldable pub record_of : Entry → ObjBufferEntry
record_of e =
    record {
      window = window_mark e;
      alpha = semi_mark e;
      color = record { 0 = e.color.0 };
      priority = e.priority;
    }

-- The record that a reset leaves, which the Rust's default is.
abbrev pub reset_record : ObjBufferEntry
reset_record = record_of reset_entry

-- The bytes of a row of records, four for each: a row of another length than 240 has other than 960.
unfoldable pub row_bytes : List ObjBufferEntry → List ℕ
row_bytes records = row_of entry_cells (λ k. entry_of_record (get_or records k reset_record)) (length records)

-- The 240 records of a row of bytes.
unfoldable pub records_in : List ℕ → List ObjBufferEntry
records_in bytes = tab (λ k. record_of (cell_at entry_cells bytes k)) display_width

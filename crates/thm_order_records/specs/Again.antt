-- Demand 3 carried over: a row of records drawn on any number of times holds what the row of bytes holds (01, "Sprites",
-- "What must change shape"). Assumes nothing.
use Rattle.std.specs.Prelude.{◌≡◌, List, [], ◌∷◌}
use Rattle.rows.specs.Tab.{tab}
use Rattle.memory.specs.Sizes.{display_width}
use Rattle.obj_entries.specs.Entry.{reset_row}
use Rattle.gpu.specs.Draw.{draw}
use Rattle.thm_order.specs.Draws.{Attempt, row_after}
use Rattle.gpu_records.specs.Entries.{reset_record, row_bytes, records_in}
use Rattle.gpu_records.specs.declared.entry.ObjBufferEntry.{ObjBufferEntry}
use Rattle.gpu_draw_records.specs.Draw.{draw_records}

-- The reset row of records.
abbrev pub reset_records : List ObjBufferEntry
reset_records = tab (λ _. reset_record) display_width

-- The row that draws leave, one after another.
unfoldable pub records_after : List Attempt → List ObjBufferEntry → List ObjBufferEntry
records_after [] records = records
records_after (a ∷ rest) records = records_after rest (draw_records a.call records a.output).records

-- After draws on a reset row the records are those of the bytes that the same draws leave in a reset row of bytes, and stand
-- for exactly these bytes; so the next draw gives the same number and the same output.
pub record SameAsBytes (draws : List Attempt) : Type 0 where
  pub records_are : records_after draws reset_records ≡ records_in (row_after draws reset_row)
  pub bytes_are : row_bytes (records_after draws reset_records) ≡ row_after draws reset_row
  pub number_is : (next : Attempt)
      → (draw_records next.call (records_after draws reset_records) next.output).number
      ≡ (draw next.call (row_after draws reset_row) next.output).number
  pub output_is : (next : Attempt)
      → (draw_records next.call (records_after draws reset_records) next.output).output
      ≡ (draw next.call (row_after draws reset_row) next.output).output

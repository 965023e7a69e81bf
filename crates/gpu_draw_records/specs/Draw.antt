-- What a draw over a row of records gives, for every input of any lengths: the byte form's answers (01, "Numbers a draw may
-- return", "What must change shape"). Assumes nothing.
use Rattle.std.specs.Prelude.{ℕ, ◌≡◌, Bool, cond, not, ◌&&◌, List, eqb}
use Rattle.regs.specs.Registers.{dispcnt}
use Rattle.regs.specs.Display.{force_blank}
use Rattle.gpu_judge.specs.Judge.{Call}
use Rattle.gpu.specs.Draw.{draw}
use Rattle.gpu_records.specs.Entries.{row_bytes, records_in}
use Rattle.gpu_records.specs.declared.entry.ObjBufferEntry.{ObjBufferEntry}

-- What a draw gives: its number, and the records and the output afterwards.
pub record RecordDrawing : Type 0 where
  pub number : ℕ
  pub records : List ObjBufferEntry
  pub output : List ℕ

-- Whether a draw that gave the number writes the records, by its registers: a refusal changes nothing, and forced blank
-- leaves the entries.
unfoldable pub writes : ℕ → List ℕ → Bool
writes number registers = eqb number 0 && not (force_blank (dispcnt registers))

-- What a draw gives: the byte form's number and output on the bytes of the records, and its entries as records.
unfoldable pub draw_records : Call → List ObjBufferEntry → List ℕ → RecordDrawing
draw_records c records output =
    let drawing = draw c (row_bytes records) output in
    record {
      number = drawing.number;
      records = cond (writes drawing.number c.memory.registers) (records_in drawing.entries) records;
      output = drawing.output;
    }

-- A draw gives the number and leaves the records and the output: its whole contract.
abbrev pub DrawsRecords : Call → List ObjBufferEntry → List ℕ → ℕ → List ObjBufferEntry → List ℕ → Type 0
DrawsRecords c records output number recordsLeft outputLeft =
    record { number = number; records = recordsLeft; output = outputLeft } ≡ draw_records c records output

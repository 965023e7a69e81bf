-- Demand 1: every call returns, for all lengths and contents; each public routine judges its own input; a refused call gives
-- its number from document 01 or 02 and changes no byte that was lent (01, "Numbers a draw may return", "What must change
-- shape"; 02, W-202, W-205). That every call returns is what the check of the routines says, whose contracts have no `requires`; a
-- buffer lent to be read can't be written; the rest is below. Assumes nothing.
use Rattle.std.specs.Prelude.{ℕ, ◌<◌, ◌≡◌, Bool, true, not, ◌&&◌, ◌||◌, List, [], ◌∷◌, ◌++◌, ◌≢◌, eqb, leb, ltb, length, get_or}
use Rattle.rows.specs.Below.{all_below}
use Rattle.memory.specs.Memory.{Memory}
use Rattle.memory.specs.Sizes.{display_width, display_height, output_size}
use Rattle.regs.specs.Registers.{dispcnt, bldy}
use Rattle.regs.specs.Display.{mode, force_blank}
use Rattle.bg_points.specs.References.{in_ranges}
use Rattle.bg_points.specs.declared.references.References.{References}
use Rattle.gpu_step.specs.declared.Steps.{Steps}
use Rattle.gpu_step.specs.Step.{sums, references_size, references_in, StepsTo}
use Rattle.obj_entries.specs.Entry.{entries_size, well_shaped, shaped_row}
use Rattle.obj_entries.specs.Reset.{Resets}
use Rattle.gpu_judge.specs.Judge.{Call, blank_off, have_lengths}
use Rattle.memory.specs.Memory.{memory_lengths}
use Rattle.gpu.specs.Line.{blank_line}
use Rattle.gpu.specs.Draw.{Draws}
use Rattle.gpu_records.specs.Step.{steps_of, references_of, StepsRecords}
use Rattle.gpu_records.specs.Entries.{entry_of_record, reset_record}
use Rattle.gpu_records.specs.declared.affine.BgAffine.{BgAffine}
use Rattle.gpu_records.specs.declared.entry.ObjBufferEntry.{ObjBufferEntry}
use Rattle.gpu_draw_records.specs.Draw.{DrawsRecords}
use Rattle.explain.specs.Reason.{refused_reason, blank_reason}
use Rattle.explain.specs.Explain.{Explains}
use Rattle.explain.specs.declared.Reason.{Reason}
use Rattle.gpu_pages.specs.Places.{page_of, is_other}
use Rattle.gpu_bus.specs.Memories.{Memories, bus_lengths}
use Rattle.gpu_bus.specs.Read.{refused_byte, Reads}
use Rattle.gpu_bus.specs.Store.{Store, address_of, store_lengths, is_odd_halfword, Stores}
use Rattle.gpu_bus.specs.declared.Byte.{Byte}
use Rattle.thm_refusals.specs.Table.{Row, row, NoneOf, Judged}

-- ---- the tables

-- The numbers a draw may return, in the order of the tests, by whether its buffers have their lengths and its entries are
-- well shaped.
abbrev pub draw_table : Call → Bool → Bool → List Row
draw_table c sized shaped =
    row 1 (ltb 1 c.reading)
    ∷ row 2 (not sized)
    ∷ row 3 (leb display_height c.line)
    ∷ row 4 (blank_off c && ltb 5 (mode (dispcnt c.memory.registers)))
    ∷ row 5 (blank_off c && eqb c.reading 0 && ltb 16 (bldy c.memory.registers))
    ∷ row 6 (blank_off c && not (in_ranges c.references))
    ∷ row 7 (blank_off c && not shaped)
    ∷ []

-- Those of a draw over bytes.
abbrev pub bytes_table : Call → List ℕ → List ℕ → List Row
bytes_table c entries output = draw_table c (have_lengths c.memory entries output) (shaped_row entries)

-- Whether each buffer of a draw over records has its length, the row being of 240.
unfoldable pub record_lengths : Memory → List ObjBufferEntry → List ℕ → Bool
record_lengths m records output = memory_lengths m && eqb (length records) display_width && eqb (length output) output_size

-- Whether each of a row's 240 records stands for a well-shaped entry.
abbrev pub shaped_records : List ObjBufferEntry → Bool
shaped_records records = all_below (λ k. well_shaped (entry_of_record (get_or records k reset_record))) display_width

-- Those of a draw over records.
abbrev pub records_table : Call → List ObjBufferEntry → List ℕ → List Row
records_table c records output = draw_table c (record_lengths c.memory records output) (shaped_records records)

-- A row reset gives 2 for a wrong length.
abbrev pub reset_table : List ℕ → List Row
reset_table entries = row 2 (not (eqb (length entries) entries_size)) ∷ []

-- Any of the four, before or after the step, is out of range.
abbrev pub out_of_range : Steps → References → Bool
out_of_range s four = not (in_ranges four) || not (in_ranges (sums s four))

-- The step on lent bytes gives 2 for another length, tested before 6.
abbrev pub step_table : Steps → List ℕ → List Row
step_table s bytes = row 2 (not (eqb (length bytes) references_size)) ∷ row 6 (out_of_range s (references_in bytes)) ∷ []

-- The step on records has no length to judge.
abbrev pub pair_table : BgAffine → BgAffine → List Row
pair_table bg2 bg3 = row 6 (out_of_range (steps_of bg2 bg3) (references_of bg2 bg3)) ∷ []

-- Whether each buffer of an explanation has its length: it is lent no output.
unfoldable pub lent_lengths : Memory → List ℕ → Bool
lent_lengths m entries = memory_lengths m && eqb (length entries) entries_size

-- An explanation gives a draw's numbers, and then 8 for a column of 240 or more.
abbrev pub explain_table : Call → List ℕ → ℕ → List Row
explain_table c entries column =
    draw_table c (lent_lengths c.memory entries) (shaped_row entries)
    ++ (row 8 (leb display_width column) ∷ [])

-- A byte read gives 2 for a wrong length, then 9 for any other page.
abbrev pub read_table : ℕ → Memories → List Row
read_table address m = row 2 (not (bus_lengths m)) ∷ row 9 (is_other (page_of address)) ∷ []

-- A store gives 2 for a wrong length, then 9 for any other page, then 11 for a halfword store at an odd address of page 6.
abbrev pub store_table : Store → Memories → List Row
store_table s m =
    row 2 (not (store_lengths s m))
    ∷ row 9 (is_other (page_of (address_of s)))
    ∷ row 11 (is_odd_halfword s)
    ∷ []

-- ---- the demand

-- A call gives the number that its table gives, and where that isn't 0, what was lent is unchanged.
pub record Judges (table : List Row) (number : ℕ) (Unchanged : Type 0) : Type 0 where
  pub judged : Judged table number
  pub unchanged : number ≢ 0 → Unchanged

-- Forced blank leaves the entries and isn't stopped by 4 to 7: where none of 1 to 3 applies, the blank line is drawn.
pub record Blanks {A : Type 0} (table : List Row) (number : ℕ) (entries entriesLeft : A) (outputLeft : List ℕ) : Type 0 where
  pub keeps : entriesLeft ≡ entries
  pub draws : NoneOf 3 table → (number ≡ 0) × (outputLeft ≡ blank_line)

-- For every input of each routine, and every answer that its contract allows.
pub record Demand1 : Type 0 where
  pub draw : (c : Call) (entries output : List ℕ) {number : ℕ} {entriesLeft outputLeft : List ℕ}
      → Draws c entries output number entriesLeft outputLeft
      → Judges (bytes_table c entries output) number ((entriesLeft ≡ entries) × (outputLeft ≡ output))
      × (force_blank (dispcnt c.memory.registers) ≡ true
      → Blanks (bytes_table c entries output) number entries entriesLeft outputLeft)
  pub draw-records : (c : Call) (records : List ObjBufferEntry) (output : List ℕ)
      {number : ℕ} {recordsLeft : List ObjBufferEntry} {outputLeft : List ℕ}
      → DrawsRecords c records output number recordsLeft outputLeft
      → Judges (records_table c records output) number ((recordsLeft ≡ records) × (outputLeft ≡ output))
      × (force_blank (dispcnt c.memory.registers) ≡ true
      → Blanks (records_table c records output) number records recordsLeft outputLeft)
  pub reset : (entries : List ℕ) {number : ℕ} {left : List ℕ}
      → Resets entries number left
      → Judges (reset_table entries) number (left ≡ entries)
  pub step : (s : Steps) (bytes : List ℕ) {number : ℕ} {left : List ℕ}
      → StepsTo s bytes number left
      → Judges (step_table s bytes) number (left ≡ bytes)
  pub step-records : (bg2 bg3 : BgAffine) {number : ℕ} {left2 left3 : BgAffine}
      → StepsRecords bg2 bg3 number left2 left3
      → Judges (pair_table bg2 bg3) number ((left2 ≡ bg2) × (left3 ≡ bg3))
  -- Nothing is lent to be written: unchanged is that every other field is 0. Forced blank is stopped by 1 to 3 and 8 only.
  pub explain : (c : Call) (entries : List ℕ) (column : ℕ) {r : Reason}
      → Explains c entries column r
      → Judges (explain_table c entries column) r.number (r ≡ refused_reason r.number)
      × (force_blank (dispcnt c.memory.registers) ≡ true
      → NoneOf 3 (explain_table c entries column) → column < display_width → r ≡ blank_reason)
  -- Nothing is lent to be written: unchanged is that the value is 0.
  pub read8 : (address : ℕ) (m : Memories) {b : Byte}
      → Reads address m b
      → Judges (read_table address m) b.number (b ≡ refused_byte b.number)
  pub store : (s : Store) (m : Memories) {number : ℕ} {left : Memories}
      → Stores s m number left
      → Judges (store_table s m) number (left ≡ m)

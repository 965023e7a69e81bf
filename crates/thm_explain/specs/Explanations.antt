-- What is proved of explanations, for every input (02, W-202). Assumes nothing.
use Rattle.std.specs.Prelude.{ℕ, ◌<◌, ◌≡◌, true, false, List, ◌↔◌, length}
use Rattle.rows.specs.Cells.{cell_at}
use Rattle.rows.specs.Words.{word_cells}
use Rattle.memory.specs.Sizes.{output_size}
use Rattle.regs.specs.Registers.{dispcnt}
use Rattle.regs.specs.Display.{force_blank}
use Rattle.regs.specs.Reading.{reading_of}
use Rattle.gpu_judge.specs.Judge.{Call}
use Rattle.gpu.specs.Line.{entries_after}
use Rattle.gpu.specs.Draw.{Draws}
use Rattle.explain.specs.Reason.{blank_reason, case_reason}
use Rattle.explain.specs.Explain.{case_at, Explains}
use Rattle.explain.specs.declared.Reason.{Reason}
use Rattle.thm_explain.specs.Fits.{Column, worked_out, Fits}

-- A column of a draw on entries, as it stands after the draw.
abbrev pub column_of : Call → List ℕ → ℕ → Column
column_of c entries column = record { call = c; after = entries_after c entries; at = column }

-- For every input of an explanation, and every answer that its contract allows.
pub record Explanations : Type 0 where
  -- The number is 0 exactly if a draw of the same input with a whole output gives 0 and the column is below 240.
  pub accepted : (c : Call) (entries output : List ℕ) (column : ℕ) {r : Reason} {number : ℕ} {entriesLeft outputLeft : List ℕ}
      → Explains c entries column r → length output ≡ output_size → Draws c entries output number entriesLeft outputLeft
      → (r.number ≡ 0) ↔ ((number ≡ 0) × (column < 240))
  -- Under forced blank the reason is forced blank; else it is that of the case which the drawn pixel is made by.
  pub reason_blank : (c : Call) (entries : List ℕ) (column : ℕ) {r : Reason} → Explains c entries column r → r.number ≡ 0
      → force_blank (dispcnt c.memory.registers) ≡ true → r ≡ blank_reason
  pub reason_case : (c : Call) (entries : List ℕ) (column : ℕ) {r : Reason} → Explains c entries column r → r.number ≡ 0
      → force_blank (dispcnt c.memory.registers) ≡ false
      → r ≡ case_reason (reading_of c.reading) c.memory.registers (case_at c (entries_after c entries) column)
  -- It fits, and no other reason does.
  pub one_fits : (c : Call) (entries : List ℕ) (column : ℕ) {r : Reason} → Explains c entries column r → r.number ≡ 0
      → Fits (column_of c entries column) r × ((other : Reason) → Fits (column_of c entries column) other → other ≡ r)
  -- The colour worked out from the reason alone is the drawn pixel.
  pub drawn : (c : Call) (entries output : List ℕ) (column : ℕ) {r : Reason} {number : ℕ} {entriesLeft outputLeft : List ℕ}
      → Explains c entries column r → r.number ≡ 0
      → length output ≡ output_size → Draws c entries output number entriesLeft outputLeft
      → (worked_out r ≡ cell_at word_cells outputLeft column) × (r.pixel ≡ cell_at word_cells outputLeft column)
  -- No second answer satisfies the contract.
  pub once : (c : Call) (entries : List ℕ) (column : ℕ) {r other : Reason}
      → Explains c entries column r → Explains c entries column other → other ≡ r

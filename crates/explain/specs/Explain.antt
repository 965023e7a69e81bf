-- What an explanation gives, for every input of any lengths (02, W-202; 01, "What one draw takes and gives", "Numbers a draw
-- may return"). Assumes nothing.
use Rattle.std.specs.Prelude.{ℕ, ◌≡◌, cond, List, eqb, ltb}
use Rattle.rows.specs.Cells.{cell_at}
use Rattle.rows.specs.Tab.{tab}
use Rattle.memory.specs.Sizes.{display_width, output_size}
use Rattle.memory.specs.Palette.{backdrop}
use Rattle.regs.specs.Registers.{dispcnt}
use Rattle.regs.specs.Display.{force_blank}
use Rattle.regs.specs.Reading.{reading_of}
use Rattle.obj_entries.specs.Entry.{entry_cells}
use Rattle.sfx_layers.specs.Layers.{backgrounds}
use Rattle.sfx.specs.Pixel.{Case, case_of}
use Rattle.refusals.specs.Refusal.{outcome_number}
use Rattle.gpu_judge.specs.Judge.{Call, verdict}
use Rattle.gpu.specs.Line.{entries_after, color_of}
use Rattle.explain.specs.Reason.{refused_reason, blank_reason, case_reason}
use Rattle.explain.specs.declared.Reason.{Reason}

-- The case of a column of a draw, by the entries as they stand after the sprites: the one that its pixel is made by.
abbrev pub case_at : Call → List ℕ → ℕ → Case
case_at c after column =
    case_of (reading_of c.reading) c.memory.registers (backdrop c.memory.palette)
    (backgrounds c.memory.registers (λ bg. color_of c bg column))
    (cell_at entry_cells after column) column c.line

-- An output of the length that a draw asks for: an explanation is lent none.
abbrev pub whole_output : List ℕ
whole_output = tab (λ _. 0) output_size

-- The number: a draw's with a whole output, and then 8 for a column of 240 or more.
unfoldable pub explain_number : Call → List ℕ → ℕ → ℕ
explain_number c entries column =
    let n = outcome_number (verdict c entries whole_output) in
    cond (eqb n 0) (cond (ltb column display_width) 0 8) n

-- What an explanation gives: a refusal, forced blank, or the reason of the column's case.
unfoldable pub explain : Call → List ℕ → ℕ → Reason
explain c entries column =
    let n = explain_number c entries column in
    cond (eqb n 0)
    (cond (force_blank (dispcnt c.memory.registers))
    blank_reason
    (case_reason (reading_of c.reading) c.memory.registers (case_at c (entries_after c entries) column)))
    (refused_reason n)

-- An explanation gives the reason: its whole contract. Nothing is lent to be written.
abbrev pub Explains : Call → List ℕ → ℕ → Reason → Type 0
Explains c entries column r = r ≡ explain c entries column

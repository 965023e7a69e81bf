-- Judging a draw's input (01, "What one draw takes and gives", "Numbers a draw may return"; GBATEK, "LCD I/O Display
-- Control", which has forced blank and the modes). Assumes nothing.
use Rattle.std.specs.Prelude.{ℕ, Bool, cond, not, ◌&&◌, List, eqb, leb, ltb, length}
use Rattle.std.specs.declared.result.Result.{Result}
use Rattle.std.specs.declared.result.Result.TheVariants.{Ok, Err}
use Rattle.memory.specs.Memory.{Memory, memory_from, memory_lengths}
use Rattle.memory.specs.Sizes.{display_height, output_size}
use Rattle.refusals.specs.declared.Refusal.{Refusal}
use Rattle.refusals.specs.declared.Refusal.TheVariants.{
  BadReading,
  BadLength,
  BadLine,
  BadMode,
  BadBldy,
  BadReference,
  BadEntry,
}
use Rattle.regs.specs.Registers.{dispcnt, bldy}
use Rattle.regs.specs.Display.{mode, force_blank}
use Rattle.bg_points.specs.References.{in_ranges}
use Rattle.bg_points.specs.declared.references.References.{References}
use Rattle.obj_entries.specs.Entry.{entries_size, shaped_row}
use Rattle.gpu_judge.specs.declared.Picture.{Picture}
use Rattle.gpu_judge.specs.declared.Picture.TheVariants.{Blank, Drawn}

-- What a draw is asked for: the reading and the line as numbers, the reference numbers, and the memory it reads.
pub record Call : Type 0 where
  pub reading : ℕ
  pub line : ℕ
  pub references : References
  pub memory : Memory

-- A draw by what it is lent, in the order of its parameters.
abbrev pub call_of : ℕ → ℕ → References → List ℕ → List ℕ → List ℕ → List ℕ → Call
call_of reading line references vram palette oam registers =
    record {
      reading = reading;
      line = line;
      references = references;
      memory = memory_from vram palette oam registers;
    }

-- Whether each buffer has its length.
unfoldable pub have_lengths : Memory → List ℕ → List ℕ → Bool
have_lengths m entries output = memory_lengths m && eqb (length entries) entries_size && eqb (length output) output_size

-- Forced blank is off.
abbrev pub blank_off : Call → Bool
blank_off c = not (force_blank (dispcnt c.memory.registers))

-- What a draw is found to be: the first row of the table that applies, and drawn if none does.
unfoldable pub verdict : Call → List ℕ → List ℕ → Result Picture Refusal
verdict c entries output =
    cond (ltb 1 c.reading) (Err BadReading)
    (cond (not (have_lengths c.memory entries output)) (Err BadLength)
    (cond (leb display_height c.line) (Err BadLine)
    (cond (blank_off c && ltb 5 (mode (dispcnt c.memory.registers))) (Err BadMode)
    (cond (blank_off c && eqb c.reading 0 && ltb 16 (bldy c.memory.registers)) (Err BadBldy)
    (cond (blank_off c && not (in_ranges c.references)) (Err BadReference)
    (cond (blank_off c && not (shaped_row entries)) (Err BadEntry)
    (cond (blank_off c) (Ok Drawn) (Ok Blank))))))))

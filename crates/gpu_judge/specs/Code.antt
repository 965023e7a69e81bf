-- As code has it: what is asked for after the first tests, what the rest find of it, and what an accepted draw has
-- (01, "Numbers a draw may return").
-- No exported contract reaches this file. Assumes nothing.
use Rattle.std.specs.Prelude.{ℕ, ◌≤◌, ◌<◌, ◌≡◌, true, false, cond, not, List, leb, ltb, length}
use Rattle.std.specs.declared.result.Result.{Result}
use Rattle.std.specs.declared.result.Result.TheVariants.{Ok, Err}
use Rattle.memory.specs.Memory.{Memory, MemoryLengths, memory_lengths}
use Rattle.memory.specs.Sizes.{display_height, output_size}
use Rattle.refusals.specs.declared.Refusal.{Refusal}
use Rattle.refusals.specs.declared.Refusal.TheVariants.{
  BadLength,
  BadLine,
  BadMode,
  BadBldy,
  BadReference,
  BadEntry,
}
use Rattle.regs.specs.Registers.{dispcnt, bldy}
use Rattle.regs.specs.Display.{mode, force_blank}
use Rattle.regs.specs.Reading.{reading_of, try_reading, counted}
use Rattle.regs.specs.declared.reading.Reading.{Reading}
use Rattle.regs.specs.declared.reading.Reading.TheVariants.{R, H}
use Rattle.bg_points.specs.References.{in_ranges}
use Rattle.obj_entries.specs.Entry.{entries_size, shaped_row}
use Rattle.gpu_judge.specs.Judge.{Call}
use Rattle.gpu_judge.specs.declared.Picture.{Picture}
use Rattle.gpu_judge.specs.declared.Picture.TheVariants.{Blank, Drawn}
use Rattle.gpu_judge.specs.declared.Request.{Request}

-- Every buffer has its length.
pub record Lengths (m : Memory) (entries output : List ℕ) : Type 0 where
  pub memory_is : MemoryLengths m
  pub entries_is : length entries ≡ entries_size
  pub output_is : length output ≡ output_size

-- What the tests of a draw leave.
pub record Ready (c : Call) (entries output : List ℕ) : Type 0 where
  pub lengths : Lengths c.memory entries output
  pub reading< : c.reading < 2
  pub line< : c.line < 160
  pub mode< : mode (dispcnt c.memory.registers) < 6
  pub evy≤ : counted (reading_of c.reading) (bldy c.memory.registers) ≤ 16
  pub ranges : in_ranges c.references ≡ true
  pub shaped : shaped_row entries ≡ true

-- What the tests that follow those of the lengths leave of what is asked for.
pub record Pictured (r : Request) : Type 0 where
  pub line< : r.line < 160
  pub lit : force_blank (dispcnt r.memory.registers) ≡ false
  pub mode< : mode (dispcnt r.memory.registers) < 6
  pub evy≤ : counted r.reading (bldy r.memory.registers) ≤ 16
  pub ranges : in_ranges r.references ≡ true

-- The memory, if each buffer has its length.
unfoldable pub lent_memory : Memory → Result Memory Refusal
lent_memory m = cond (memory_lengths m) (Ok m) (Err BadLength)

-- What follows an accepted test, if it is; the first refusal stands.
abbrev pub next : {A B : Type 0} → Result A Refusal → (A → Result B Refusal) → Result B Refusal
next (Ok a) rest = rest a
next (Err refusal) rest = Err refusal

-- What a draw is asked for, if its reading is one and its memory has its lengths.
unfoldable pub request : Call → Result Request Refusal
request c =
    next (try_reading c.reading)
    (λ reading.
    next (lent_memory c.memory)
    (λ memory. Ok (record { reading = reading; line = c.line; references = c.references; memory = memory })))

-- What a draw that has its lengths is found to be; forced blank isn't stopped by 4 to 7.
unfoldable pub judged : Request → List ℕ → Result Picture Refusal
judged r entries =
    cond (leb display_height r.line) (Err BadLine)
    (cond (force_blank (dispcnt r.memory.registers)) (Ok Blank)
    (cond (ltb 5 (mode (dispcnt r.memory.registers))) (Err BadMode)
    (cond (ltb 16 (counted r.reading (bldy r.memory.registers))) (Err BadBldy)
    (cond (not (in_ranges r.references)) (Err BadReference)
    (cond (not (shaped_row entries)) (Err BadEntry)
    (Ok Drawn))))))

-- The number of a reading.
abbrev pub reading_number : Reading → ℕ
reading_number R = 0
reading_number H = 1

-- The draw that a request is for.
abbrev pub call_in : Request → Call
call_in r =
    record { reading = reading_number r.reading; line = r.line; references = r.references; memory = r.memory }

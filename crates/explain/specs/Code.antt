-- As code has it: the reason of a column, and what is found of one (02, W-202).
-- No exported contract reaches this file. Assumes nothing.
use Rattle.std.specs.Prelude.{ℕ, ◌≡◌, cond, List, ltb}
use Rattle.std.specs.declared.result.Result.{Result}
use Rattle.std.specs.declared.result.Result.TheVariants.{Ok, Err}
use Rattle.memory.specs.Sizes.{display_width}
use Rattle.refusals.specs.declared.Refusal.{Refusal}
use Rattle.regs.specs.Reading.{reading_of}
use Rattle.gpu_judge.specs.Judge.{Call, verdict}
use Rattle.gpu_judge.specs.Code.{next}
use Rattle.gpu_judge.specs.declared.Picture.{Picture}
use Rattle.gpu_judge.specs.declared.Picture.TheVariants.{Blank, Drawn}
use Rattle.gpu.specs.Line.{entries_after}
use Rattle.explain.specs.Reason.{blank_reason, case_reason}
use Rattle.explain.specs.Explain.{case_at, whole_output}
use Rattle.explain.specs.declared.Reason.{Reason}

-- The reason of a column's case.
abbrev pub column_reason : Call → List ℕ → ℕ → Reason
column_reason c entries column =
    case_reason (reading_of c.reading) c.memory.registers (case_at c (entries_after c entries) column)

-- A reason is that of a column's case.
abbrev pub ReasonAt : Call → List ℕ → ℕ → Reason → Type 0
ReasonAt c entries column r = r ≡ column_reason c entries column

-- The reason of what a draw shows.
abbrev pub shown_reason : Picture → Call → List ℕ → ℕ → Reason
shown_reason Blank c entries column = blank_reason
shown_reason Drawn c entries column = column_reason c entries column

-- What is found of a column: the draw's refusal, that of the column, or the reason.
unfoldable pub found : Call → List ℕ → ℕ → Result Reason Refusal
found c entries column =
    next (verdict c entries whole_output)
    (λ picture. cond (ltb column display_width) (Ok (shown_reason picture c entries column)) (Err Refusal.BadColumn))

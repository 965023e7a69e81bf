-- What the line-end step gives (01, "Numbers a draw may return", its last paragraph; GBATEK, "LCD I/O BG
-- Rotation/Scaling"). Assumes nothing.
use Rattle.std.specs.Prelude.{ℕ, ◌≡◌, cond, not, ◌&&◌, List, [], ◌∷◌, eqb, ℤ, ◌+ℤ◌, get_or, length}
use Rattle.std.specs.declared.option.Option.{Option}
use Rattle.std.specs.declared.option.Option.TheVariants.{None, Some}
use Rattle.signed.specs.Signed.{signed32, word32}
use Rattle.rows.specs.Answer.{Answer}
use Rattle.rows.specs.Cells.{cell_at, row_of}
use Rattle.rows.specs.Words.{word_cells}
use Rattle.bg_points.specs.References.{in_ranges}
use Rattle.bg_points.specs.declared.references.References.{References}
use Rattle.gpu_step.specs.declared.Steps.{Steps}

-- It adds pb to x and pd to y for both.
unfoldable pub sums : Steps → References → References
sums s r =
    record { x2 = r.x2 +ℤ s.pb2; y2 = r.y2 +ℤ s.pd2; x3 = r.x3 +ℤ s.pb3; y3 = r.y3 +ℤ s.pd3 }

-- The four, or none if any of them, before or after, is out of range.
unfoldable pub stepped : Steps → References → Option References
stepped s r =
    let to = sums s r in
    cond (in_ranges r && in_ranges to) (Some to) None

-- The number of each answer.
unfoldable pub step_number : Option References → ℕ
step_number None = 6
step_number (Some to) = 0

-- The four reference numbers after each answer; a refusal leaves them unchanged.
unfoldable pub references_after : Option References → References → References
references_after None r = r
references_after (Some to) r = to

-- The four lie in 16 bytes, in the draw's order, little-endian.
abbrev pub references_size : ℕ
references_size = 16

-- Reference number k of the bytes.
abbrev pub reference_at : List ℕ → ℕ → ℤ
reference_at bytes k = signed32 (cell_at word_cells bytes k)

-- The four of the bytes.
unfoldable pub references_in : List ℕ → References
references_in bytes =
    record { x2 = reference_at bytes 0; y2 = reference_at bytes 1; x3 = reference_at bytes 2; y3 = reference_at bytes 3 }

-- The words of the four.
abbrev pub words_of : References → List ℕ
words_of r = word32 r.x2 ∷ word32 r.y2 ∷ word32 r.x3 ∷ word32 r.y3 ∷ []

-- The bytes of the four.
unfoldable pub bytes_of : References → List ℕ
bytes_of r = row_of word_cells (λ k. get_or (words_of r) k 0) 4

-- The lent bytes after each answer; a refusal leaves them unchanged.
unfoldable pub bytes_after : Option References → List ℕ → List ℕ
bytes_after None bytes = bytes
bytes_after (Some to) bytes = bytes_of to

-- What the step on lent bytes gives; another length gives 2, tested before 6.
unfoldable pub step : Steps → List ℕ → Answer
step s bytes =
    let answer = stepped s (references_in bytes) in
    cond (not (eqb (length bytes) references_size)) (record { number = 2; bytes = bytes })
    (record { number = step_number answer; bytes = bytes_after answer bytes })

-- The step gives the number and leaves the bytes: its whole contract.
abbrev pub StepsTo : Steps → List ℕ → ℕ → List ℕ → Type 0
StepsTo s bytes number left = record { number = number; bytes = left } ≡ step s bytes

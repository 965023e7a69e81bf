-- What a draw gives, for every input of any lengths (01, "What one draw takes and gives", "Numbers a draw may return").
-- Assumes nothing.
use Rattle.std.specs.Prelude.{ℕ, ◌≡◌, List}
use Rattle.std.specs.declared.result.Result.{Result}
use Rattle.std.specs.declared.result.Result.TheVariants.{Ok, Err}
use Rattle.refusals.specs.Refusal.{refusal_number}
use Rattle.refusals.specs.declared.Refusal.{Refusal}
use Rattle.gpu_judge.specs.Judge.{Call, verdict}
use Rattle.gpu_judge.specs.declared.Picture.{Picture}
use Rattle.gpu_judge.specs.declared.Picture.TheVariants.{Blank, Drawn}
use Rattle.gpu.specs.Line.{entries_after, line_after, blank_line}

-- What a draw gives: its number, and the entries and the output afterwards.
pub record Drawing : Type 0 where
  pub number : ℕ
  pub entries : List ℕ
  pub output : List ℕ

-- A refusal changes no lent byte.
abbrev pub refused : ℕ → List ℕ → List ℕ → Drawing
refused number entries output = record { number = number; entries = entries; output = output }

-- What each verdict gives: forced blank leaves the entries.
unfoldable pub given : Result Picture Refusal → Call → List ℕ → List ℕ → Drawing
given (Err refusal) c entries output = refused (refusal_number refusal) entries output
given (Ok Blank) c entries output = record { number = 0; entries = entries; output = blank_line }
given (Ok Drawn) c entries output =
    let after = entries_after c entries in
    record { number = 0; entries = after; output = line_after c after }

-- What a draw gives.
unfoldable pub draw : Call → List ℕ → List ℕ → Drawing
draw c entries output = given (verdict c entries output) c entries output

-- A draw gives the number and leaves the entries and the output: its whole contract.
abbrev pub Draws : Call → List ℕ → List ℕ → ℕ → List ℕ → List ℕ → Type 0
Draws c entries output number entriesLeft outputLeft =
    record { number = number; entries = entriesLeft; output = outputLeft } ≡ draw c entries output

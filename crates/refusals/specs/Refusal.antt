-- The numbers of refusals (01, "Numbers a draw may return"; 02, W-202 and W-205). Assumes nothing.
use Rattle.std.specs.Prelude.{ℕ}
use Rattle.std.specs.declared.result.Result.{Result}
use Rattle.std.specs.declared.result.Result.TheVariants.{Ok, Err}
use Rattle.refusals.specs.declared.Refusal.{Refusal}
use Rattle.refusals.specs.declared.Refusal.TheVariants.{
  BadReading,
  BadLength,
  BadLine,
  BadMode,
  BadBldy,
  BadReference,
  BadEntry,
  BadColumn,
  BadPage,
  OddAddress,
}

-- The number of each refusal, 1 to 9 and 11.
unfoldable pub refusal_number : Refusal → ℕ
refusal_number BadReading = 1
refusal_number BadLength = 2
refusal_number BadLine = 3
refusal_number BadMode = 4
refusal_number BadBldy = 5
refusal_number BadReference = 6
refusal_number BadEntry = 7
refusal_number BadColumn = 8
refusal_number BadPage = 9
refusal_number OddAddress = 11

-- What a call returns: 0 where it is accepted, else the refusal's number.
unfoldable pub outcome_number : {A : Type 0} → Result A Refusal → ℕ
outcome_number (Ok _) = 0
outcome_number (Err refusal) = refusal_number refusal

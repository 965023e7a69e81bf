-- When a call's answer counts as the oracle's. Assumes nothing.
use Rattle.std.specs.Prelude.{◌≡◌, ℕ, List}
use Rattle.std.specs.declared.result.Result.{Result}
use Rattle.std.specs.declared.result.Result.TheVariants.{Ok}
use Rattle.run_replay.specs.declared.compare.Difference.{Difference}

-- No difference was found only where number, entries and output are the oracle's.
abbrev pub SameOnlyIf : Result Unit Difference → ℕ → List ℕ → List ℕ → ℕ → List ℕ → List ℕ → Type 0
SameOnlyIf found number entries output oracleNumber oracleEntries oracleOutput =
    found ≡ Ok tt → (number ≡ oracleNumber) × (entries ≡ oracleEntries) × (output ≡ oracleOutput)

-- The reading, and what it makes of weights (01, "What one draw takes and gives", "Two readings"; GBATEK,
-- "LCD I/O Color Special Effects"). Assumes nothing.
use Rattle.std.specs.Prelude.{ℕ, zero, suc, cond, leb, min}
use Rattle.std.specs.declared.result.Result.{Result}
use Rattle.std.specs.declared.result.Result.TheVariants.{Ok, Err}
use Rattle.refusals.specs.declared.Refusal.{Refusal}
use Rattle.regs.specs.declared.reading.Reading.{Reading}
use Rattle.regs.specs.declared.reading.Reading.TheVariants.{R, H}

-- The reading of a number: 0 is R, 1 is H, and so is any other, for which no draw is accepted.
unfoldable pub reading_of : ℕ → Reading
reading_of zero = R
reading_of (suc _) = H

-- R uses a weight as it is, H counts 17 to 31 as 16 (LCD I/O Color Special Effects; DIFFERENCES, 2 and 3).
unfoldable pub counted : Reading → ℕ → ℕ
counted R weight = weight
counted H weight = min 16 weight

-- The reading of a number that one has, and else the refusal (01, "Numbers a draw may return").
unfoldable pub try_reading : ℕ → Result Reading Refusal
try_reading number = cond (leb number 1) (Ok (reading_of number)) (Err Refusal.BadReading)

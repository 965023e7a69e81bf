-- What a routine on one lent buffer gives (01, "Numbers a draw may return"). Assumes nothing.
use Rattle.std.specs.Prelude.{ℕ, List}

-- What a routine on one buffer gives: its number, and the bytes afterwards.
pub record Answer : Type 0 where
  pub number : ℕ
  pub bytes : List ℕ

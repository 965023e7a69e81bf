-- Tables of numbers (01, "Numbers a draw may return": tested in this order; the first that applies is given, and it is given
-- exactly then). Assumes nothing.
use Rattle.std.specs.Prelude.{ℕ, ◌<◌, ◌≡◌, Bool, true, false, List, ◌↔◌, ◌⊎◌, length, get_or}

-- A row of a table: its number, and whether it applies to the input.
pub record Row : Type 0 where
  pub number : ℕ
  pub applies : Bool

-- The row of a number.
abbrev pub row : ℕ → Bool → Row
row number applies = record { number = number; applies = applies }

-- The row at place i, the first being at 0; past the end none applies.
abbrev pub row_at : List Row → ℕ → Row
row_at table i = get_or table i (row 0 false)

-- None of the first n rows applies.
abbrev pub NoneOf : ℕ → List Row → Type 0
NoneOf n table = (j : ℕ) → j < n → (row_at table j).applies ≡ false

-- A number is the one that a table gives: it is 0 or a row's; it is a row's exactly if that row applies and none before it;
-- and it is 0 exactly if no row applies.
pub record Judged (table : List Row) (number : ℕ) : Type 0 where
  pub one_of : (number ≡ 0) ⊎ ((i : ℕ) × (i < length table) × (number ≡ (row_at table i).number))
  pub exactly : (i : ℕ) → i < length table
      → (number ≡ (row_at table i).number) ↔ (((row_at table i).applies ≡ true) × NoneOf i table)
  pub none : (number ≡ 0) ↔ NoneOf (length table) table

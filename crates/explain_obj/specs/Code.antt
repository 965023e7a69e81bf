-- As code has it: where a column of the screen lies in a box (01, "Sprites").
-- No exported contract reaches this file. Assumes nothing.
use Rattle.std.specs.Prelude.{ℕ, ◌+◌, ◌-◌, ◌≤◌, ◌<◌, ◌≡◌, false, min}
use Rattle.std.specs.declared.option.Option.{Option}
use Rattle.std.specs.declared.option.Option.TheVariants.{Some, None}
use Rattle.rows.specs.Below.{between}

-- Which column of a box, whose left edge is left less 272, a column of the screen is; if none, it isn't between the box's ends.
pub record PlaceOf (left width column : ℕ) (r : Option ℕ) : Type 0 where
  pub some : (i : ℕ) → r ≡ Some i → (left ≤ column + 272) × (column + 272 < left + width) × (i ≡ column + 272 - left)
  pub none : r ≡ None → between (left - 272) (min 240 (left + width - 272)) column ≡ false

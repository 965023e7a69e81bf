-- What a row reset gives (01, "Numbers a draw may return", its last paragraph). Assumes nothing.
use Rattle.std.specs.Prelude.{ℕ, ◌≡◌, cond, List, eqb, length}
use Rattle.rows.specs.Answer.{Answer}
use Rattle.obj_entries.specs.Entry.{entries_size, reset_row}

-- A row reset writes 240 reset entries and gives 0, or gives 2 for a wrong length and writes nothing.
unfoldable pub reset : List ℕ → Answer
reset entries =
    cond (eqb (length entries) entries_size)
    (record { number = 0; bytes = reset_row })
    (record { number = 2; bytes = entries })

-- A row reset gives the number and leaves the bytes: its whole contract.
abbrev pub Resets : List ℕ → ℕ → List ℕ → Type 0
Resets entries number left = record { number = number; bytes = left } ≡ reset entries

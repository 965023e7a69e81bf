-- As code has it: the columns already claimed, as marks in four words (01, "Windows and blending").
-- No exported contract reaches this file. Assumes nothing.
use Rattle.std.specs.Prelude.{ℕ, ◌-◌, ◌/◌, ◌%◌, ◌^◌, ◌≤◌, ◌<◌, ◌≡◌, Bool, ◌&&◌, List, eqb, get_or}
use Rattle.rows.specs.Below.{between, count_below}
use Rattle.rows.specs.Cells.{only}
use Rattle.rows.specs.Tab.{map_tab}
use Rattle.sfx_marks.specs.declared.columns.Columns.{Columns}

-- Whether bit i of a word is set.
unfoldable pub is_set : ℕ → ℕ → Bool
is_set word i = eqb (word / 2 ^ i % 2) 1

-- Whether column k is marked, 64 columns a word.
unfoldable pub marked : List ℕ → ℕ → Bool
marked ws k = is_set (get_or ws (k / 64) 0) (k % 64)

-- Their count is the number of marks set.
abbrev pub count_marks : List ℕ → ℕ
count_marks ws = count_below (marked ws) 240

-- Nothing is marked past the 240 columns: the fourth word holds 48 marks.
abbrev pub Clean : List ℕ → Type 0
Clean ws = get_or ws 3 0 < 2 ^ 48

-- Whether columns hold k.
abbrev pub holds : Columns → ℕ → Bool
holds c k = between c.left c.right k

-- Marks are those of the columns that the test picks.
pub record MarksOf (test : ℕ → Bool) (ws : List ℕ) : Type 0 where
  pub same : (k : ℕ) → k < 240 → marked ws k ≡ test k

-- The columns from first on and before end are whole eights of the line.
pub record Eights (first end : ℕ) : Type 0 where
  pub first_whole : first % 8 ≡ 0
  pub end_whole : end % 8 ≡ 0
  pub ordered : first ≤ end
  pub bound : end ≤ 240

-- Whether column k lies from first on and before end and is marked in a word whose lowest bit is first's.
abbrev pub marked_in : ℕ → ℕ → ℕ → ℕ → Bool
marked_in word first end k = between first end k && is_set word (k - first)

-- A row with the columns that the test picks given to another row: they have its words.
unfoldable pub given_row : (ℕ → Bool) → List ℕ → List ℕ → List ℕ
given_row test other row = map_tab (only test (λ k _. get_or other k 0)) 240 0 row

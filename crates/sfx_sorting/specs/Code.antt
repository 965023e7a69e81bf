-- As code has it: backgrounds ordered in four places (01, "What must change shape"; GBATEK, "LCD I/O BG Control").
-- No exported contract reaches this file. Assumes nothing.
use Rattle.std.specs.Prelude.{ℕ, ◌+◌, ◌*◌, ◌%◌, min, max, List, [], ◌∷◌, slice_get, Option, Some, None, Bool, cond, ltb}
use Rattle.sfx_sorting.specs.declared.background.Background.{Background}

-- The number of the background in a place, if it holds one.
abbrev pub number_in : Option Background → Option ℕ
number_in None = None
number_in (Some bg) = Some bg.number

-- The background of a number: one above 3 has none.
abbrev pub numbered : ℕ → Option ℕ
numbered number = cond (ltb number 4) (Some number) None

-- A list of backgrounds in four places.
unfoldable pub places : List ℕ → List (Option ℕ)
places order = slice_get order 0 ∷ slice_get order 1 ∷ slice_get order 2 ∷ slice_get order 3 ∷ []

-- What a background is sorted by: its priority, or 4 if it is off, and then its number.
abbrev pub sort_key : Bool → ℕ → ℕ → ℕ
sort_key on priority bg = 4 * cond on priority 4 + bg

-- Four keys in order, by five exchanges.
unfoldable pub sorted_keys : ℕ → ℕ → ℕ → ℕ → List ℕ
sorted_keys a b c d =
    min (min a b) (min c d)
    ∷ min (max (min a b) (min c d)) (min (max a b) (max c d))
    ∷ max (max (min a b) (min c d)) (min (max a b) (max c d))
    ∷ max (max a b) (max c d)
    ∷ []

-- The background of a key, if it is on.
abbrev pub key_place : ℕ → Option ℕ
key_place key = cond (ltb key 16) (Some (key % 4)) None

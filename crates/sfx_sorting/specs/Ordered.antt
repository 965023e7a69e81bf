-- The order of backgrounds (01, "Windows and blending", its first paragraph; GBATEK, "LCD I/O Display Control", "LCD I/O BG
-- Control"). Assumes nothing.
use Rattle.std.specs.Prelude.{ℕ, Bool, false, cond, ◌&&◌, List, [], ◌∷◌, ◌++◌, eqb, get_or}
use Rattle.regs.specs.Registers.{dispcnt, bgcnt}
use Rattle.regs.specs.Display.{enable_bg}
use Rattle.regs.specs.Background.{priority}

-- Those of the list that the test picks, in their order.
unfoldable pub keep : {A : Type 0} → (A → Bool) → List A → List A
keep test [] = []
keep test (a ∷ rest) = cond (test a) (a ∷ keep test rest) (keep test rest)

-- Whether a background is on and has the priority (LCD I/O Display Control, LCD I/O BG Control).
unfoldable pub stands : List ℕ → ℕ → ℕ → Bool
stands registers p bg = get_or (enable_bg (dispcnt registers)) bg false && eqb (priority (bgcnt registers bg)) p

-- The backgrounds that are on and have the priority, by number.
abbrev pub standing : List ℕ → ℕ → List ℕ
standing registers p = keep (stands registers p) (0 ∷ 1 ∷ 2 ∷ 3 ∷ [])

-- Backgrounds stand in order of (priority, number); those that are off don't.
unfoldable pub ordered : List ℕ → List ℕ
ordered registers = standing registers 0 ++ standing registers 1 ++ standing registers 2 ++ standing registers 3

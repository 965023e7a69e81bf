-- Tiles and sprites that are shown flipped (01, "Backgrounds", "Sprites"; GBATEK, "LCD VRAM Overview, Character Data, BG Screen
-- Data Format", "LCD OBJ - OAM Attributes"). Assumes nothing.
use Rattle.std.specs.Prelude.{ℕ, ◌-◌, Bool, cond}

-- A place of a side, counted from the other end where the bit is set.
unfoldable pub flip : Bool → ℕ → ℕ → ℕ
flip set side at = cond set (side - 1 - at) at

-- The point of an affine or bitmap background that a column shows (01, "Backgrounds"; GBATEK, "LCD I/O BG Rotation/Scaling").
-- Assumes nothing.
use Rattle.std.specs.Prelude.{ℕ, Bool, cond, ◌&&◌, ◌||◌, ℤ, pos, ◌+ℤ◌, ◌*ℤ◌}
use Rattle.rgb15.specs.Colour.{transparent}
use Rattle.signed.specs.Signed.{signed16, down256, wrapped, within}

-- The point is (reference + column * pa, or pc) divided by 256, rounded down: one coordinate, its step as a halfword.
unfoldable pub transform_bg_point : ℤ → ℕ → ℕ → ℤ
transform_bg_point reference step column = down256 (reference +ℤ pos column *ℤ signed16 step)

-- A point shows a pixel if it lies inside, or anywhere when the wrap bit is set.
unfoldable pub shows : Bool → ℕ → ℕ → ℤ → ℤ → Bool
shows wraparound w h x y = (within x w && within y h) || wraparound

-- Outside: transparent, or wrapped by the non-negative remainder, which changes nothing inside.
unfoldable pub point_color : Bool → ℕ → ℕ → (ℕ → ℕ → ℕ) → ℤ → ℤ → ℕ
point_color wraparound w h pixel x y = cond (shows wraparound w h x y) (pixel (wrapped x w) (wrapped y h)) transparent

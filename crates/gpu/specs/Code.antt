-- As code has it: a background that may be off (01, "Numbers a draw may return").
-- No exported contract reaches this file. Assumes nothing.
use Rattle.std.specs.Prelude.{ℕ, Bool, cond, List}
use Rattle.rgb15.specs.Colour.{transparent}
use Rattle.bg_points.specs.declared.references.References.{References}
use Rattle.bg.specs.Background.{background_color}

-- The colour of a background at a column, if it is on; else it is transparent.
unfoldable pub color_if_on : Bool → List ℕ → List ℕ → List ℕ → References → ℕ → ℕ → ℕ → ℕ
color_if_on on vram palette registers references bg column line =
    cond on (background_color vram palette registers references bg column line) transparent

-- The reference numbers of a draw (01, "What one draw takes and gives"; GBATEK, "LCD I/O BG Rotation/Scaling"). Assumes
-- nothing.
use Rattle.std.specs.Prelude.{Bool, ◌&&◌}
use Rattle.signed.specs.Signed.{in_range}
use Rattle.bg_points.specs.declared.references.References.{References}

-- Whether each of the four reference numbers is in range.
unfoldable pub in_ranges : References → Bool
in_ranges r = in_range r.x2 && in_range r.y2 && in_range r.x3 && in_range r.y3

-- bg_points::transform_bg_point meets its contract: the sum is that of point_is, and no column's product reaches 2^24.
-- Assumes nothing.
use mathlib.Core.Path.{sym, ◌∙◌}
use mir.Facts.{to_z-of_z}
use Rattle.bg_points.proofs.Points.{transform_is}
use Rattle.bg_points.proofs.transform_bg_point.Goals as goal

pub returns : goal.returns
returns c =
    let lifted = sym (to_z-of_z c.ranges.reference) ∙ c.lift_i32-reference.ensures.0 in
    transform_is _ _ _ _ _ lifted c.lift_half-step.ensures.0 c.requires.1 c.down_256.ensures

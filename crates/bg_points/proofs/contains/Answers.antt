-- bg_points::contains meets its contract: each outcome is within's clause for a coordinate on that side of zero.
-- Assumes nothing.
use mathlib.Core.Path.{sym, ◌∙◌}
use native.Mathlib.Omega.{arith}
use borrow.Author.Tests.{lt-leb}
use Rattle.signed.proofs.Remainder.{within-subℕ-below, within-subℕ-from}
use Rattle.bg_points.proofs.contains.Goals as goal

pub returns-then-q-ge-BG_POINT_BIAS : goal.returns-then-q-ge-BG_POINT_BIAS
returns-then-q-ge-BG_POINT_BIAS c = sym (within-subℕ-from _ _ _ c.if-q-ge-BG_POINT_BIAS.true)

pub returns-else-q-ge-BG_POINT_BIAS : goal.returns-else-q-ge-BG_POINT_BIAS
returns-else-q-ge-BG_POINT_BIAS c =
    let below = c.if-q-ge-BG_POINT_BIAS.false in
    lt-leb _ _ (omega (arith, below)) ∙ sym (within-subℕ-below _ _ _ (omega (arith, below)))

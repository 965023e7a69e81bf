-- bg_points::rem_euclid meets its contract: a coordinate inside is its own remainder, and the bias is a multiple of the side.
-- Assumes nothing.
use mathlib.Core.Path.{sym}
use native.Mathlib.Nat.{mod-lt}
use Rattle.signed.proofs.Remainder.{wrapped-subℕ}
use Rattle.bg_points.proofs.Points.{inside_is, wrapped-inside}
use Rattle.bg_points.proofs.rem_euclid.Goals as goal

pub overflow_sub-result : goal.overflow_sub-result
overflow_sub-result c = (inside_is _ _ c.contains.ensures c.if-contains.true).0

pub returns-then-contains : goal.returns-then-contains
returns-then-contains c =
    let inside = inside_is _ _ c.contains.ensures c.if-contains.true in
    (sym (wrapped-inside _ _ inside.0 inside.1), inside.1)

pub returns-else-contains : goal.returns-else-contains
returns-else-contains c = let side = c.requires in (sym (wrapped-subℕ _ side.0 _ _ side.1), mod-lt _ side.0)

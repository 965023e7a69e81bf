-- sfx_marks::marks_in meets its contract: the marks below the left edge are taken from those below the right one.
-- Assumes nothing.
use native.Mathlib.Omega.{arith}
use lib.Pow.{pow_pos}
use Rattle.sfx_marks.proofs.Marked.{low_bound}
use Rattle.sfx_marks.proofs.marks_in.Goals as goal

pub overflow_sub-result : goal.overflow_sub-result
overflow_sub-result c =
    rw (c.low_marks.ensures, c.low_marks-2.ensures, c.saturating_sub.ensures, c.saturating_sub-2.ensures)
    (omega (arith, low_bound _ _ c.args.first c.args.columns.ordered))

pub returns : goal.returns
returns c =
    rw (c.low_marks.ensures, c.low_marks-2.ensures, c.saturating_sub.ensures, c.saturating_sub-2.ensures)
    (omega (arith, pow_pos))

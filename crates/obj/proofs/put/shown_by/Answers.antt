-- obj::put::shown_by meets its contract: the mark's number in the place of bit 0 is the mark put.
-- Assumes nothing.
use native.Mathlib.Omega.{arith}
use Rattle.obj.proofs.Marks.{number_is, shown_by_made, number_bound}
use Rattle.obj.proofs.put.shown_by.Goals as goal

pub returns : goal.returns
returns c =
    let at = c.args in
    shown_by_made at.alpha at.priority at.pixel_color.0 at.e (omega (arith, number_is at.alpha))

pub overflow_add-result : goal.overflow_add-result
overflow_add-result c = omega (arith, number_bound c.args.alpha)

-- sfx_marks::paint_word meets its contract: a turn gives the next eight columns, and the marks left begin at the column after them.
-- Assumes nothing.
use Prim.Native.Nat.{◌+◌, ◌*◌}
use native.Mathlib.Omega.{arith}
use borrow.Author.Rules.{rules}
use mathlib.Core.Path.{◌≡◌}
use Rattle.sfx_marks.proofs.Paints.{given_none, marked_in_none, painted_none, painted_more, painted-all}
use Rattle.sfx_marks.proofs.paint_word.Goals as goal

pub returns-then-marks-eq0 : goal.returns-then-marks-eq0
returns-then-marks-eq0 c =
    let none : c.args.marks ≡ 0 = c.if-marks-eq0.true in
    rw none (given_none _ _ (search rules) (marked_in_none _ _))

pub loop-j-init : goal.loop-j-init
loop-j-init c =
    let none : c.args.first + 8 * 0 ≡ c.args.first = omega arith in
    rw none (painted_none _ _ _ _ (search rules) c.requires.ordered)

pub loop-j-preserved : goal.loop-j-preserved
loop-j-preserved c =
    let next : c.args.first + 8 * (c.loop-j.j + 1) ≡ c.args.first + 8 * c.loop-j.j + 8 = omega arith in
    rw next (painted_more _ _ _ _ _ 8 c.loop-j.invariant (omega (arith, c.requires.ordered)) c.paint_eight.ensures)

pub returns : goal.returns
returns c =
    painted-all _ _ _ _ _ c.loop-j.invariant
    (omega (arith, c.requires.first_whole, c.requires.end_whole, c.requires.ordered))

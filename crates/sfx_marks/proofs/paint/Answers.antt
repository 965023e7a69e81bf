-- sfx_marks::paint meets its contract: a turn gives the columns of one word more, and the four have all 240.
-- Assumes nothing.
use Prim.Native.Nat.{◌+◌, ◌*◌, min}
use native.Mathlib.Omega.{arith}
use mathlib.Core.Path.{◌≡◌}
use borrow.Author.Rules.{rules}
use Rattle.sfx_marks.proofs.Paints.{given_to_none, given_to_more, given_to-all}
use Rattle.sfx_marks.proofs.paint.Goals as goal

pub loop-i-init : goal.loop-i-init
loop-i-init c = given_to_none c.args.other.now c.args.marks _ (search rules)

pub loop-i-preserved : goal.loop-i-preserved
loop-i-preserved c =
    let from : min 240 (64 * c.loop-i.i) ≡ 64 * c.loop-i.i = omega arith in
    let to : min 240 (64 * (c.loop-i.i + 1)) ≡ c.min-end.result = omega arith in
    rw to
    (given_to_more c.args.other.now c.args.marks _ c.loop-i.i c.min-end.result (omega arith) (omega arith)
    (rw from at c.loop-i.invariant) c.paint_word.ensures)

pub returns : goal.returns
returns c =
    let all : min 240 (64 * c.loop-i.i) ≡ 240 = omega arith in
    given_to-all c.args.other.now c.args.marks _ (rw all at c.loop-i.invariant)

-- sfx_marks::paint meets its contract: a turn gives the columns of one word more.
-- Assumes nothing.
use Prim.Native.Nat.{◌*◌, min}
use Rattle.sfx_marks.proofs.Paints.{GivenTo}
use Rattle.sfx_marks.proofs.paint.Given as goal

abbrev pub invariant-loop-i : goal.invariant-loop-i
invariant-loop-i l = GivenTo l.other l.marks l.initial.row (min 240 (64 * l.i)) l.row

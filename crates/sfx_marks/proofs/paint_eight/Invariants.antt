-- sfx_marks::paint_eight meets its contract: a turn gives one column by the lowest mark, and halving brings the next mark there.
-- Assumes nothing.
use Prim.Native.Nat.{◌+◌}
use Rattle.sfx_marks.proofs.Paints.{Painted}
use Rattle.sfx_marks.proofs.paint_eight.Given as goal

abbrev pub invariant-loop-j : goal.invariant-loop-j
invariant-loop-j l = Painted l.other l.marks l.i (l.i + 8) l.initial.row l.row l.left (l.i + l.j)

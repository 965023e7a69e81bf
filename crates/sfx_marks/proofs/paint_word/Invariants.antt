-- sfx_marks::paint_word meets its contract: a turn gives the next eight columns, and the marks left begin at the column after them.
-- Assumes nothing.
use Prim.Native.Nat.{◌+◌, ◌*◌}
use Rattle.sfx_marks.proofs.Paints.{Painted}
use Rattle.sfx_marks.proofs.paint_word.Given as goal

abbrev pub invariant-loop-j : goal.invariant-loop-j
invariant-loop-j l = Painted l.other l.marks l.first l.end l.initial.row l.row l.left (l.first + 8 * l.j)

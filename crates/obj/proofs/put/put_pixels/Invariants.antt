-- obj::put::put_pixels meets its contract: a turn puts its column's colour.
-- Assumes nothing.
use mathlib.Core.Bool.{not}
use lib.Dec.{eqb}
use Rattle.obj.specs.Code.{mode_of}
use Rattle.obj.proofs.Pixels.{PutUpTo}
use Rattle.obj.proofs.put.put_pixels.Given as goal

abbrev pub invariant-loop-column : goal.invariant-loop-column
invariant-loop-column g l =
    PutUpTo (mode_of (not (eqb g.row.WINDOW 0)) l.alpha) l.priority l.row.colors l.row.left l.row.span.start l.row.span.end
    l.initial.entries l.column l.entries

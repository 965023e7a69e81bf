-- obj::first_open meets its contract: each turn passes one column that is closed.
-- Assumes nothing.
use Rattle.obj.specs.Code.{Walked, Closed}
use Rattle.obj.proofs.first_open.Given as goal

abbrev pub invariant-loop-column : goal.invariant-loop-column
invariant-loop-column l = Walked (Closed l.entries l.priority) l.span.start l.span.end l.column

-- obj::last_open meets its contract: each turn passes one column that is closed, from the end on.
-- Assumes nothing.
use Rattle.obj.specs.Code.{WalkedBack, Closed}
use Rattle.obj.proofs.last_open.Given as goal

abbrev pub invariant-loop-column : goal.invariant-loop-column
invariant-loop-column l = WalkedBack (Closed l.entries l.priority) l.span.start l.span.end l.column

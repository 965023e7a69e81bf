-- explain_obj::column_entry meets its contract: each turn is one sprite's step.
-- Assumes nothing.
use Rattle.obj_sprites.specs.Code.{source_of}
use Rattle.explain_obj.proofs.Columns.{SteppedTo}
use Rattle.explain_obj.proofs.column_entry.Given as goal

abbrev pub invariant-loop-obj : goal.invariant-loop-obj
invariant-loop-obj l =
    SteppedTo l.view.reading (source_of l.memory l.view) l.view.line l.column l.initial.entry l.obj l.entry

-- obj_entries::reset_row meets its contract: a turn puts the reset entry in its cell.
-- Assumes nothing.
use Rattle.rows.proofs.Passed.{Passed}
use Rattle.obj_entries.specs.Entry.{entry_cells, reset_entry}
use Rattle.obj_entries.proofs.reset_row.Given as goal

abbrev pub invariant-loop-k : goal.invariant-loop-k
invariant-loop-k l = Passed entry_cells (λ _ _. reset_entry) 240 l.initial.entries l.k l.entries

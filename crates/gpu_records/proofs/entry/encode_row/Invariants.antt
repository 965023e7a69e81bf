-- gpu_records::entry::encode_row meets its contract: a turn puts the entry of a record in its cell.
-- Assumes nothing.
use Rattle.rows.proofs.Passed.{Passed}
use Rattle.obj_entries.specs.Entry.{entry_cells}
use Rattle.gpu_records.proofs.Rows.{entry_at}
use Rattle.gpu_records.proofs.entry.encode_row.Given as goal

abbrev pub invariant-loop-k : goal.invariant-loop-k
invariant-loop-k l = Passed entry_cells (λ j _. entry_at l.records j) 240 l.initial.bytes l.k l.bytes

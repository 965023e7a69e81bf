-- obj_entries::shaped_row meets its contract: a turn asks one entry more.
-- Assumes nothing.
use mathlib.Core.Path.{◌≡◌}
use Rattle.rows.specs.Below.{all_below}
use Rattle.rows.specs.Cells.{cell_at}
use Rattle.obj_entries.specs.Entry.{entry_cells, well_shaped}
use Rattle.obj_entries.proofs.shaped_row.Given as goal

abbrev pub invariant-loop-k : goal.invariant-loop-k
invariant-loop-k l = l.shaped ≡ all_below (λ k. well_shaped (cell_at entry_cells l.entries k)) l.k

-- obj_entries::reset_row meets its contract: a turn puts the reset entry in its cell.
-- Assumes nothing.
use borrow.Author.Rules.{rules}
use Rattle.rows.proofs.Passed.{started, turned, filled}
use Rattle.obj_entries.specs.Entry.{entry_cells}
use Rattle.obj_entries.proofs.Entries.{put_cell_as_word}
use Rattle.obj_entries.proofs.reset_row.Goals as goal

pub loop-k-init : goal.loop-k-init
loop-k-init c = search (rules, started entry_cells)

pub loop-k-preserved : goal.loop-k-preserved
loop-k-preserved c =
    turned entry_cells c.loop-k.invariant c.loop-k-test.true
    (put_cell_as_word _ _ _ c.from.ensures c.put_word.ensures) c.reset_entry.ensures

pub returns : goal.returns
returns c = search (rules, filled entry_cells)

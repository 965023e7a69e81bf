-- sfx::write_row meets its contract: a turn puts its column's pixel in its cell.
-- Assumes nothing.
use borrow.Author.Rules.{rules}
use Rattle.rows.specs.Words.{word_cells}
use Rattle.rows.proofs.Passed.{started, turned, filled}
use Rattle.sfx.proofs.write_row.Goals as goal

pub loop-column-init : goal.loop-column-init
loop-column-init c = started word_cells (search rules)

pub loop-column-preserved : goal.loop-column-preserved
loop-column-preserved c =
    turned word_cells c.loop-column.invariant c.loop-column-test.true c.put_word.ensures c.to_rgb24.ensures

pub returns : goal.returns
returns c = filled word_cells c.loop-column.invariant c.loop-column-test.false

-- sfx_regions::win1_columns meets its contract: the rows are window 1's, and the columns the clause of window1_columns.
-- Assumes nothing.
use Rattle.sfx_regions.specs.Region.{in_window1, window1_columns}
use Rattle.sfx_regions.proofs.Spans.{columns_of_window}
use Rattle.sfx_regions.proofs.win1_columns.Goals as goal

pub returns-in-R : goal.returns-in-R
unfolding in_window1 window1_columns
returns-in-R c =
    let on-is = c.read_dispcnt-dispcnt.ensures.window1_is in
    rw c.in-R.is
    (columns_of_window _ on-is c.read_win1-win1.ensures c.read_win0-win0.ensures c.claimed_columns.ensures)

pub returns-in-H : goal.returns-in-H
unfolding in_window1 window1_columns
returns-in-H c =
    let edges = c.read_win1-win1.ensures in
    rw c.in-H.is
    (columns_of_window _ c.read_dispcnt-dispcnt.ensures.window1_is edges edges c.claimed_columns-in-H.ensures)

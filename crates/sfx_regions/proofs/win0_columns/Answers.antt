-- sfx_regions::win0_columns meets its contract: the switch and the edges are those that the registers have of window 0.
-- Assumes nothing.
use Rattle.sfx_regions.specs.Region.{in_window0}
use Rattle.sfx_regions.proofs.Spans.{columns_of_window}
use Rattle.sfx_regions.proofs.win0_columns.Goals as goal

pub returns : goal.returns
unfolding in_window0
returns c =
    let edges = c.read_win0-win0.ensures in
    columns_of_window _ c.read_dispcnt-dispcnt.ensures.window0_is edges edges c.claimed_columns.ensures

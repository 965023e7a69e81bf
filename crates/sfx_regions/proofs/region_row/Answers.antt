-- sfx_regions::region_row meets its contract: the test is whether any window is on, and the walk goes over both.
-- Assumes nothing.
use mathlib.Core.Path.{◌∙◌}
use Rattle.sfx_regions.proofs.Regions.{uses_windows_is, region_row_none, region_row_walked}
use Rattle.sfx_regions.proofs.region_row.Goals as goal

pub returns-then-not-is_using_windows : goal.returns-then-not-is_using_windows
returns-then-not-is_using_windows c =
    region_row_none _ _ _ _ _
    (uses_windows_is _ c.read_dispcnt-dispcnt.ensures c.is_using_windows.ensures ∙ c.if-not-is_using_windows.true)

pub returns : goal.returns
returns c =
    let display = c.read_dispcnt-dispcnt.ensures in
    region_row_walked _ _ _ _ _
    (uses_windows_is _ display c.is_using_windows.ensures ∙ c.if-not-is_using_windows.false)
    display.obj_window_is
    c.win0_columns-win0.ensures
    c.win1_columns-win1.ensures
    c.windowed_row.ensures

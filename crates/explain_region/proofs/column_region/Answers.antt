-- explain_region::column_region meets its contract: its tests are those of region, in the same order.
-- Assumes nothing.
use mathlib.Core.Path.{◌∙◌}
use Rattle.explain_region.proofs.Regions.{region_none, region_win0, region_win1, region_obj, region_out}
use Rattle.explain_region.proofs.column_region.Goals as goal

pub returns-then-not-is_using_windows : goal.returns-then-not-is_using_windows
returns-then-not-is_using_windows c =
    region_none _ _ _ _ _ c.read_dispcnt-dispcnt.ensures c.is_using_windows.ensures c.if-not-is_using_windows.true

pub returns-then-holds : goal.returns-then-holds
returns-then-holds c =
    region_win0 _ _ _ _ _ c.read_dispcnt-dispcnt.ensures c.is_using_windows.ensures c.if-not-is_using_windows.false
    (c.holds.ensures ∙ c.win0_columns-first.ensures.same _) c.if-holds.true

pub returns-then-holds-2 : goal.returns-then-holds-2
returns-then-holds-2 c =
    region_win1 _ _ _ _ _ c.read_dispcnt-dispcnt.ensures c.is_using_windows.ensures c.if-not-is_using_windows.false
    (c.holds.ensures ∙ c.win0_columns-first.ensures.same _) c.if-holds.false
    (c.holds-2.ensures ∙ c.win1_columns-second.ensures.same _) c.if-holds-2.true

pub returns-then-dispcnt-mark : goal.returns-then-dispcnt-mark
returns-then-dispcnt-mark c =
    region_obj _ _ _ _ _ c.read_dispcnt-dispcnt.ensures c.is_using_windows.ensures c.if-not-is_using_windows.false
    (c.holds.ensures ∙ c.win0_columns-first.ensures.same _) c.if-holds.false
    (c.holds-2.ensures ∙ c.win1_columns-second.ensures.same _) c.if-holds-2.false c.if-dispcnt-mark.true

pub returns-else-dispcnt-mark : goal.returns-else-dispcnt-mark
returns-else-dispcnt-mark c =
    region_out _ _ _ _ _ c.read_dispcnt-dispcnt.ensures c.is_using_windows.ensures c.if-not-is_using_windows.false
    (c.holds.ensures ∙ c.win0_columns-first.ensures.same _) c.if-holds.false
    (c.holds-2.ensures ∙ c.win1_columns-second.ensures.same _) c.if-holds-2.false c.if-dispcnt-mark.false

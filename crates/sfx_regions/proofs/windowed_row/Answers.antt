-- sfx_regions::windowed_row meets its contract: a column is given away if window 0 doesn't hold it; a count of 240 leaves none.
-- Assumes nothing.
use mathlib.Core.Path.{sym, ◌∙◌}
use Rattle.sfx_regions.proofs.Walks.{walked_first, walked_second, walked_all}
use Rattle.sfx_regions.proofs.windowed_row.Goals as goal

pub returns-then-count-eq-DISPLAY_WIDTH : goal.returns-then-count-eq-DISPLAY_WIDTH
returns-then-count-eq-DISPLAY_WIDTH c =
    walked_first _ _ _ _ _ c.of-first.ensures (sym c.count.ensures ∙ c.if-count-eq-DISPLAY_WIDTH.true)

pub returns-then-count-eq-DISPLAY_WIDTH-2 : goal.returns-then-count-eq-DISPLAY_WIDTH-2
returns-then-count-eq-DISPLAY_WIDTH-2 c =
    walked_second _ _ _ _ _
    c.of-first.ensures
    c.of.ensures
    c.without-second.ensures
    c.paint.ensures
    c.or-occupied.ensures
    (sym c.count-2.ensures ∙ c.if-count-eq-DISPLAY_WIDTH-2.true)

pub returns : goal.returns
returns c =
    walked_all _ _ _ _ _
    c.of-first.ensures
    c.of.ensures
    c.without-second.ensures
    c.paint.ensures
    c.or-occupied.ensures
    c.of-2.ensures
    c.without-left.ensures
    c.unclaimed_row-rest.ensures
    c.paint-2.ensures

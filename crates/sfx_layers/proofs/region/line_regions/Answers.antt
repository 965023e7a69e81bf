-- sfx_layers::region::line_regions meets its contract: each region's word is that of what the region permits.
-- Assumes nothing.
use mathlib.Core.Path.{sym}
use Rattle.sfx_layers.proofs.Columns.{regions_are}
use Rattle.sfx_layers.proofs.region.line_regions.Goals as goal

pub returns : goal.returns
returns g c =
    rw (sym c.in_places-places.ensures)
    (regions_are _ _ _ _ _
    c.read_dispcnt-objects.ensures.obj_is
    c.word.ensures
    c.word-2.ensures
    c.word-3.ensures
    c.word-4.ensures
    c.word-5.ensures
    c.region_row.ensures)

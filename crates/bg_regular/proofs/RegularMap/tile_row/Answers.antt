-- bg_regular::RegularMap::tile_row meets its contract: the entry of the first column is that of all eight.
-- Assumes nothing.
use Rattle.bg_regular.proofs.Maps.{tile_row_is, side_cases}
use Rattle.bg_regular.proofs.RegularMap.tile_row.Goals as goal

pub returns : goal.returns
returns c =
    let self = c.args.self in
    tile_row_is c.args.colors self c.args.tile c.args.y (side_cases _ c.requires.0.width_side) c.wrap-x.ensures.0
    c.entry-entry.ensures c.entry_row.ensures

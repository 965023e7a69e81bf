-- bg_regular::RegularMap::entry_row meets its contract: the tile, its bank and its two flips are the entry's.
-- Assumes nothing.
use Rattle.bg_regular.proofs.Maps.{entry_row_is, entry_row_empty}
use Rattle.bg_regular.proofs.RegularMap.entry_row.Goals as goal

pub returns-then-is_empty_row : goal.returns-then-is_empty_row
returns-then-is_empty_row c =
    let colors = c.args.colors in
    let s = c.args.self in
    entry_row_empty colors.vram.now colors.palette.now s.tileset_base s.format c.args.entry.0 c.args.y
    c.tile_index.ensures c.tile_size.ensures c.y_flip.ensures c.flip-tile_py.ensures.0 c.is_empty_row.ensures c.if-is_empty_row.true

pub returns : goal.returns
returns c =
    entry_row_is _ _ _ _ _ _ c.tile_index.ensures c.tile_size.ensures c.y_flip.ensures c.flip-tile_py.ensures.0
    c.palette_bank.ensures c.palette_bank-2.ensures.0 c.x_flip.ensures c.row.ensures

-- tiles::Tile::is_empty_row meets its contract: the words are 0 exactly if the row's pixels are.
-- Assumes nothing.
use Rattle.tiles.proofs.Empty.{empty_row_one-word, empty_row_two_words}
use Rattle.tiles.proofs.Tile.is_empty_row.Goals as goal

pub returns-in-BPP4 : goal.returns-in-BPP4
returns-in-BPP4 c =
    empty_row_one-word c.args.vram.now _ _ c.fits-vram c.in-BPP4.is c.read_32.ensures

pub returns-in-BPP8 : goal.returns-in-BPP8
returns-in-BPP8 c =
    empty_row_two_words _ _ _ c.in-BPP8.is c.read_32-in-BPP8.ensures c.read_32-in-BPP8-2.ensures

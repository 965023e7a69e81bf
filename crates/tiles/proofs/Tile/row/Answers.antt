-- tiles::Tile::row meets its contract: the row as it was made, and then flipped or not.
-- Assumes nothing.
use Rattle.std.proofs.Common.{rules}
use Rattle.rgb15.specs.Colour.{rgb}
use Rattle.rows.proofs.Made.{made_tab}
use Rattle.tiles.specs.Code.{color_in_tile}
use Rattle.tiles.proofs.Rows.{flipped_tab}
use Rattle.tiles.proofs.Tile.row.Goals as goal

pub returns : goal.returns
returns g c =
    flipped_tab _ _ _
    (made_tab _ (λ x. rgb (color_in_tile c.args.colors g.row.OFFSET c.args.self x c.args.y)) _ _ 8 (rgb 0)
    (λ i y q i< k. search rules) c.from_fn-row.ensures.items)
    c.flip_row.ensures

-- bg_regular::RegularLine::tiles meets its contract: each tile is eight columns of the line.
-- Assumes nothing.
use mathlib.Core.List.{[]}
use borrow.Author.Rules.{rules}
use Rattle.rows.proofs.Made.{made_tab}
use Rattle.bg_regular.proofs.Maps.{map_tile_is}
use Rattle.bg_regular.proofs.RegularLine.tiles.Goals as goal

pub returns : goal.returns
returns c =
    let l = c.args.self in
    let map-is = c.from-map.ensures.0 in
    made_tab _ _ _ _ _ [] (λ t y q t< k. (
      map_tile_is c.args.colors l.control l.hofs l.vofs l.line t _ map-is c.wrap-y.ensures.0 (search rules),
      search rules,
    )) c.from_fn.ensures.items

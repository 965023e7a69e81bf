-- bg_regular::RegularLine::render meets its contract: column k is column k + hofs % 8 of the line with its offset rounded down
-- to a tile.
-- Assumes nothing.
use Prim.Native.Nat.{◌*◌, ◌/◌, ◌+◌, ◌%◌}
use mathlib.Core.Path.{◌≡◌, ap, ◌∙◌}
use lib.ListN.{get_or}
use borrow.Author.Rules.{rules}
use Rattle.std.specs.List.{flat_map}
use Rattle.rgb15.specs.Colour.{rgb}
use Rattle.rows.specs.Tab.{tab}
use Rattle.rows.proofs.Made.{made_tab}
use Rattle.bg_regular.specs.Regular.{regular_color}
use Rattle.bg_regular.proofs.Maps.{regular_column_is, flat_tiles}
use Rattle.bg_regular.proofs.RegularLine.render.Goals as goal

pub returns : goal.returns
returns c =
    let l = c.args.self in
    let m = c.args.colors in
    let columns : c.as_flattened-columns.result.now
    ≡ tab (λ x. rgb (regular_color m.vram.now m.palette.now l.control (l.hofs / 8 * 8) l.vofs x l.line)) 248
    = c.as_flattened-columns.ensures.value ∙ ap (flat_map (λ x. x)) c.tiles-tiles.ensures ∙ flat_tiles _ in
    made_tab _ _ _ _ _ (rgb 0) (λ i y q i< k.
    let column : get_or c.as_flattened-columns.result.now (i + l.hofs % 8) (rgb 0)
    ≡ rgb (regular_color m.vram.now m.palette.now l.control l.hofs l.vofs i l.line)
    = regular_column_is _ _ _ _ _ i _ (rgb 0) columns i< in search rules)
    c.from_fn.ensures.items

-- obj_texels::normal::texel_row meets its contract: a turn sets the eight columns of one tile, and the others stay transparent.
-- Assumes nothing.
use Rattle.rgb15.specs.Colour.{rgb}
use Rattle.rows.proofs.Tiles.{TilesSet}
use Rattle.obj_texels.specs.Code.{row_texel}
use Rattle.obj_texels.proofs.normal.texel_row.Given as goal

abbrev pub invariant-loop-t : goal.invariant-loop-t
invariant-loop-t l =
    let s = l.fn.sprite in
    TilesSet (λ x. rgb (row_texel s.reading s.mapping l.colors.vram.now l.colors.palette.now s.attrs l.y x)) 128 (rgb 0)
    l.initial.row l.t l.row

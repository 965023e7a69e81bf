-- obj_texels::affine::affine_row meets its contract: a turn sets its column's colour, and the others stay transparent.
-- Assumes nothing.
use Rattle.rgb15.specs.Colour.{rgb}
use Rattle.rows.proofs.Tabbed.{MappedPart}
use Rattle.obj_texels.specs.Code.{box_point_color}
use Rattle.obj_texels.proofs.affine.affine_row.Given as goal

abbrev pub invariant-loop-i : goal.invariant-loop-i
invariant-loop-i l =
    MappedPart
    (λ i _.
    let s = l.fn.sprite in
    rgb (box_point_color s.reading s.mapping l.colors.vram.now l.colors.palette.now s.attrs l.turn i)) 128
    l.fn.span.start l.fn.span.end (rgb 0) l.initial.row l.i l.row

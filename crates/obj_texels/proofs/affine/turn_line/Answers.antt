-- obj_texels::affine::turn_line meets its contract: the calls give the matrix, the box's middle, the row and column 0.
-- Assumes nothing.
use Prim.Native.Nat.{◌/◌}
use mathlib.Core.Path.{sym, ap, ap₂}
use lib.IntN.{pos, ◌-ℤ◌}
use Rattle.obj_sprites.specs.Oam.{matrix}
use Rattle.obj_sprites.specs.declared.attrs.ObjAttrs.{ObjAttrs}
use Rattle.obj_texels.proofs.Turns.{turn_of_is}
use Rattle.obj_texels.proofs.affine.turn_line.Goals as goal

pub returns : goal.returns
returns c =
    let m = c.get_affine_matrix-matrix.ensures in
    let matrix_is = ap (λ (s : ObjAttrs). matrix c.args.oam.now s.affine_index) c.attrs.view_is in
    rw (sym matrix_is)
    (turn_of_is _ _ _ _ _ _ _ _ m.pa_is m.pb_is m.pc_is m.pd_is c.box_width-half_width.ensures.0
    (ap₂ (λ z h. z -ℤ pos (h / 2)) c.row-row.ensures.0 (sym c.box_height-half_height.ensures.0))
    c.turn_start.ensures c.turn_start-2.ensures)

-- explain_obj::affine_obj_color meets its contract: a column of the box has its point's colour, and no other has a pixel.
-- Assumes nothing.
use native.Mathlib.Omega.{arith}
use mathlib.Core.Path.{refl, sym, ap, ◌∙◌}
use Prim.Native.Nat.{◌+◌, ◌-◌, min}
use Rattle.memory.specs.Memory.{Memory}
use Rattle.obj_sprites.specs.Oam.{matrix}
use Rattle.obj_texels.specs.Code.{box_point_color}
use Rattle.obj_texels.proofs.Colors.{affine_obj_color-inside, affine_obj_color_outside}
use Rattle.explain_obj.proofs.affine_obj_color.Goals as goal

pub point_color-requires : goal.point_color-requires
point_color-requires c = omega (arith, c.box_column.ensures.some _ c.in-Some.is, c.box_width.ensures)

pub returns-in-Some : goal.returns-in-Some
returns-in-Some c =
    let place = c.box_column.ensures.some _ c.in-Some.is in
    let at = c.args in
    let m = at.memory.now in
    let turn = c.turn_line-turn in
    let sprite = c.new-sprite.ensures in
    let matrix_is = ap (λ (m : Memory). matrix m.oam at.attrs.affine_index) c.memory.view_is in
    rw (sym sprite.0, sym sprite.1, sym sprite.2, sym c.memory.view_is) c.point_color.ensures
    ∙ ap (box_point_color at.view.reading at.view.mapping m.vram m.palette at.attrs turn.result) place.2
    ∙ affine_obj_color-inside _ _ _ _ _ _ _ c.left.ensures.0 _ turn.result (rw (sym matrix_is) turn.ensures) _ (omega (arith, c.box_width.ensures))
    place.0 (omega (arith, place.1, c.box_width.ensures))

pub returns-in-None : goal.returns-in-None
returns-in-None c =
    sym
    (affine_obj_color_outside _ _ _ _ _ _ _ c.left.ensures.0 _ refl
    (ap (λ w. min 240 (c.left.result + w - 272)) c.box_width.ensures.0) _ c.requires.1 (c.box_column.ensures.none c.in-None.is))

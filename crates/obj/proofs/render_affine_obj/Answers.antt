-- obj::render_affine_obj meets its contract: a column that is left out has no pixel, or the sprite is passed over there.
-- Assumes nothing.
use Prim.Native.Nat.{◌+◌, ◌-◌, min}
use native.Mathlib.Omega.{arith}
use mathlib.Core.Path.{◌≡◌, sym, ap, ◌∙◌}
use Rattle.rgb15.specs.Colour.{rgb}
use Rattle.rows.specs.Tab.{tab}
use Rattle.memory.specs.Memory.{Memory}
use Rattle.obj_sprites.specs.Oam.{matrix}
use Rattle.obj_texels.specs.Code.{affine_texel}
use Rattle.obj_texels.proofs.Colors.{affine_obj_color_outside}
use Rattle.obj_texels.proofs.Texels.{affine_obj_color-row}
use Rattle.obj.proofs.Pixels.{put_row_closed, put_row_open}
use Rattle.obj.proofs.render_affine_obj.Goals as goal

pub returns-then-open : goal.returns-then-open
returns-then-open c =
    let end_is = c.covered.ensures.1 ∙ ap (λ w. min 240 (c.left-left.result + w - 272)) c.box_width.ensures.0 in
    put_row_closed c.args.attrs _ _
    (affine_obj_color_outside _ _ _ _ _ _ _ c.left-left.ensures.0 _ c.covered.ensures.0 end_is)
    c.open_columns-open.ensures.0 c.open_columns-open.ensures.1 c.fits-entries c.if-open.true

pub returns : goal.returns
returns c =
    let at = c.args in
    let m = at.memory.now in
    let left = c.left-left in
    let span = c.open_columns-open in
    let turn = c.turn_line-turn in
    let sprite = c.new-sprite.ensures in
    let colors-are : c.affine_row-row.result
    ≡ tab
    (λ i. rgb (affine_texel at.view.reading at.view.mapping m.vram m.palette at.attrs turn.result
    (span.result.start + 272 - left.result) (span.result.end + 272 - left.result) i)) 128
    = rw (sym sprite.0, sym sprite.1, sym sprite.2, sym c.memory.view_is) c.affine_row-row.ensures in
    let matrix_is = ap (λ (m : Memory). matrix m.oam at.attrs.affine_index) c.memory.view_is in
    let width = c.box_width.ensures in
    let end_is = c.covered.ensures.1 ∙ ap (λ w. min 240 (left.result + w - 272)) width.0 in
    put_row_open c.args.attrs _ _
    (affine_obj_color_outside _ _ _ _ _ _ _ left.ensures.0 _ c.covered.ensures.0 end_is)
    span.ensures.0 span.ensures.1
    c.affine_row-row.result left.result c.told-entries c.write_obj_pixels.ensures
    (λ k from to.
    affine_obj_color-row _ _ _ _ _ _ _ _ left.ensures.0 _ (rw (sym matrix_is) turn.ensures) (omega (arith, width)) _ _ k _
    colors-are
    (omega (arith, from, span.ensures.0.from, c.covered.ensures.0))
    (omega (arith, to, span.ensures.1.to, end_is))
    (omega (arith, from)) (omega (arith, to)))

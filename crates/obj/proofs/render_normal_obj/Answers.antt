-- obj::render_normal_obj meets its contract: a column that is left out has no pixel, or the sprite is passed over there.
-- Assumes nothing.
use Prim.Native.Nat.{◌+◌, ◌-◌, min}
use native.Mathlib.Omega.{arith}
use mathlib.Core.Path.{◌≡◌, sym, ap, subst, ◌∙◌}
use Rattle.rgb15.specs.Colour.{rgb}
use Rattle.rows.specs.Tab.{tab}
use Rattle.obj_texels.specs.Code.{row_texel}
use Rattle.obj_sprites.specs.Fields.{Decoded}
use Rattle.obj_sprites.specs.declared.attrs.ObjAttrs.{ObjAttrs}
use Rattle.obj_texels.proofs.Colors.{normal_color_outside}
use Rattle.obj_texels.proofs.Texels.{normal_color-row}
use Rattle.obj.proofs.Pixels.{put_row_closed, put_row_open}
use Rattle.obj.proofs.render_normal_obj.Goals as goal

pub returns-then-open : goal.returns-then-open
returns-then-open c =
    let end_is = c.covered.ensures.1 ∙ ap (λ (s : ObjAttrs). min 240 (c.left-left.result + s.width - 272)) c.attrs.view_is in
    put_row_closed c.args.attrs _ _
    (normal_color_outside _ _ _ _ _ _ _ c.left-left.ensures.0 c.covered.ensures.0 end_is)
    c.open_columns-open.ensures.0 c.open_columns-open.ensures.1 c.fits-entries c.if-open.true

pub returns : goal.returns
returns c =
    let at = c.args in
    let m = at.memory.now in
    let sprite = c.new-sprite.ensures in
    let colors-are : c.texel_row-row.result
    ≡ tab
    (λ x. rgb (row_texel at.view.reading at.view.mapping m.vram m.palette at.attrs c.shown_row.result x)) 128
    = rw (sym sprite.0, sym sprite.1, sym sprite.2, sym c.memory.view_is) c.texel_row-row.ensures in
    let left = c.left-left in
    let span = c.open_columns-open in
    let decoded = subst Decoded c.attrs.view_is c.attrs.invariant in
    let end_is = c.covered.ensures.1 ∙ ap (λ (s : ObjAttrs). min 240 (left.result + s.width - 272)) c.attrs.view_is in
    put_row_open c.args.attrs _ _
    (normal_color_outside _ _ _ _ _ _ _ left.ensures.0 c.covered.ensures.0 end_is)
    span.ensures.0 span.ensures.1
    c.texel_row-row.result left.result c.told-entries c.write_obj_pixels.ensures
    (λ k from to.
    normal_color-row _ _ _ _ _ _ _ left.ensures.0 decoded.width≤ k _ {y = c.shown_row.result}
    (rw (sym sprite.0, sym sprite.1) c.shown_row.ensures.0) colors-are
    (omega (arith, from, span.ensures.0.from, c.covered.ensures.0))
    (omega (arith, to, span.ensures.1.to, end_is)))

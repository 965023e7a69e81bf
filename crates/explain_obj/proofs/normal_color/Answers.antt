-- explain_obj::normal_color meets its contract: a column of the box has a texel, and no other has a pixel.
-- Assumes nothing.
use Prim.Native.Nat.{◌+◌, ◌-◌, min}
use native.Mathlib.Omega.{arith}
use mathlib.Core.Path.{refl, sym, ap, ◌∙◌}
use Rattle.tiles.specs.Flip.{flip}
use Rattle.obj_sprites.specs.declared.attrs.ObjAttrs.{ObjAttrs}
use Rattle.obj_texels.proofs.Colors.{normal_color_outside}
use Rattle.explain_obj.proofs.Columns.{normal_color-read}
use Rattle.explain_obj.proofs.normal_color.Goals as goal

pub flip-requires : goal.flip-requires
flip-requires c =
    omega (
      arith,
      c.box_column.ensures.some _ c.in-Some.is,
      ap (λ (s : ObjAttrs). s.width) (c.attrs.view_is ∙ sym c.attrs-in-Some.view_is),
    )

pub texel-requires : goal.texel-requires
texel-requires c = (
  omega (arith, c.flip.ensures.1, ap (λ (s : ObjAttrs). s.width) (c.attrs-in-Some.view_is ∙ sym c.new-sprite.ensures.0)),
  c.shown_row.ensures.1,
)

pub returns-in-Some : goal.returns-in-Some
returns-in-Some c =
    let place = c.box_column.ensures.some _ c.in-Some.is in
    let width_is = ap (λ (s : ObjAttrs). s.width) c.attrs.view_is in
    let read = c.attrs-in-Some in
    let sprite = c.new-sprite.ensures in
    normal_color-read _ _ _ _ _ _ _ c.left.ensures.0 _ {y = c.shown_row.result} place.0 (omega (arith, place.1, width_is))
    (c.flip.ensures.0
    ∙ ap (flip read.inside.h_flip read.inside.width) place.2
    ∙ ap (λ (s : ObjAttrs). flip s.h_flip s.width (c.args.column + 272 - c.left.result)) read.view_is)
    (rw (sym sprite.0, sym sprite.1) c.shown_row.ensures.0)
    (rw (sym sprite.0, sym sprite.1, sym sprite.2, sym c.memory.view_is) c.texel.ensures)

pub returns-in-None : goal.returns-in-None
returns-in-None c =
    sym
    (normal_color_outside _ _ _ _ _ _ _ c.left.ensures.0 refl
    (ap (λ (s : ObjAttrs). min 240 (c.left.result + s.width - 272)) c.attrs.view_is) _ c.requires.2
    (c.box_column.ensures.none c.in-None.is))

-- explain_obj::sprite_step meets its contract: a sprite that is drawn puts its pixel, and no other changes the entry.
-- Assumes nothing.
use mathlib.Core.Path.{refl, sym, ap, ◌∙◌}
use Rattle.memory.specs.Memory.{Memory}
use Rattle.obj_sprites.specs.Attrs.{sprite}
use Rattle.obj_sprites.specs.declared.attrs.ObjAttrs.{ObjAttrs}
use Rattle.obj.specs.Put.{put_pixel}
use Rattle.obj_sprites.proofs.Drawn.{drawn-on_line, drawn_far_decoded}
use Rattle.explain_obj.proofs.Columns.{sprite_step-drawn, sprite_step_passed}
use Rattle.explain_obj.proofs.sprite_step.Goals as goal

pub returns-then-not-is_near : goal.returns-then-not-is_near
returns-then-not-is_near c =
    let oam_is = ap (λ (m : Memory). sprite m.oam c.args.obj) c.memory.view_is in
    let is-far = sym c.is_near.ensures ∙ c.if-not-is_near.true in
    sprite_step_passed _ _ _ _ _ _ (c.read_obj_attrs.ensures ∙ oam_is)
    (drawn_far_decoded _ _ _ _ _ _ c.read_obj_attrs.ensures is-far) refl

pub returns-then-not-is_drawn : goal.returns-then-not-is_drawn
returns-then-not-is_drawn c =
    let oam_is = ap (λ (m : Memory). sprite m.oam c.args.obj) c.memory.view_is in
    sprite_step_passed _ _ _ _ _ _ (c.read_obj_attrs-attrs.ensures ∙ oam_is) c.is_drawn.ensures c.if-not-is_drawn.true

pub typed_color-pixel_color-requires : goal.typed_color-pixel_color-requires
typed_color-pixel_color-requires c =
    let on = drawn-on_line _ _ _ _ _ (sym c.is_drawn.ensures ∙ c.if-not-is_drawn.false) in
    ((c.args.view.in_screen, on), c.requires.1)

pub returns : goal.returns
returns c =
    let oam_is = ap (λ (m : Memory). sprite m.oam c.args.obj) c.memory.view_is in
    sprite_step-drawn _ _ _ _ _ _ (c.read_obj_attrs-attrs.ensures ∙ oam_is) c.is_drawn.ensures c.if-not-is_drawn.false
    c.typed_color-pixel_color.ensures
    (c.put_pixel.ensures
    ∙ ap (λ (s : ObjAttrs). put_pixel s.objmode s.priority c.typed_color-pixel_color.result.0 c.args.e) c.attrs.view_is)

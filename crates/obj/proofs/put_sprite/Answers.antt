-- obj::put_sprite meets its contract: a sprite that the line is far from isn't drawn, and one that isn't drawn has no pixel.
-- Assumes nothing.
use mathlib.Core.Path.{sym, ap, ◌∙◌}
use Rattle.memory.specs.Memory.{Memory}
use Rattle.obj_sprites.specs.Attrs.{sprite}
use Rattle.obj_sprites.proofs.Decode.{width_whole}
use Rattle.obj_sprites.proofs.Drawn.{drawn-on_line, drawn_far_decoded}
use Rattle.obj.proofs.Steps.{put_row_passed, put_row-drawn}
use Rattle.obj.proofs.put_sprite.Goals as goal

pub render_obj-requires : goal.render_obj-requires
render_obj-requires c = (
  (c.args.view.in_screen, drawn-on_line _ _ _ _ _ (sym c.is_drawn.ensures ∙ c.if-is_drawn.true)),
  width_whole _ c.read_obj_attrs-attrs.ensures,
)

pub returns-then-is_drawn : goal.returns-then-is_drawn
returns-then-is_drawn c =
    let oam_is = ap (λ (m : Memory). sprite m.oam c.args.obj) c.memory.view_is in
    put_row-drawn _ _ _ _ _ (c.read_obj_attrs-attrs.ensures ∙ oam_is)
    (sym c.is_drawn.ensures ∙ c.if-is_drawn.true)
    c.render_obj.ensures

pub returns-else-is_drawn : goal.returns-else-is_drawn
returns-else-is_drawn c =
    let oam_is = ap (λ (m : Memory). sprite m.oam c.args.obj) c.memory.view_is in
    put_row_passed _ _ _ _ _ (c.read_obj_attrs-attrs.ensures ∙ oam_is) c.fits-entries
    (sym c.is_drawn.ensures ∙ c.if-is_drawn.false)

pub returns-else-is_near : goal.returns-else-is_near
returns-else-is_near c =
    let oam_is = ap (λ (m : Memory). sprite m.oam c.args.obj) c.memory.view_is in
    let is-far = sym c.is_near.ensures ∙ c.if-is_near.false in
    put_row_passed _ _ _ _ _ (c.read_obj_attrs.ensures ∙ oam_is) c.fits-entries
    (sym (drawn_far_decoded _ _ _ _ _ _ c.read_obj_attrs.ensures is-far))

-- obj::write_obj_pixels meets its contract: each arm is what put_pixel has for its mode.
-- Assumes nothing.
use mathlib.Core.Path.{sym, ap, ◌∙◌}
use Rattle.obj_sprites.specs.declared.attrs.ObjAttrs.{ObjAttrs}
use Rattle.obj.proofs.Pixels.{put_box_forbidden}
use Rattle.obj.proofs.write_obj_pixels.Goals as goal

pub returns-in-Normal : goal.returns-in-Normal
returns-in-Normal c =
    rw (
      sym (ap (λ (s : ObjAttrs). s.objmode) c.attrs.view_is) ∙ c.in-Normal.is,
      sym (ap (λ (s : ObjAttrs). s.priority) c.attrs.view_is),
    )
    c.put_pixels.ensures

pub returns-in-Sfx : goal.returns-in-Sfx
returns-in-Sfx c =
    rw (
      sym (ap (λ (s : ObjAttrs). s.objmode) c.attrs.view_is) ∙ c.in-Sfx.is,
      sym (ap (λ (s : ObjAttrs). s.priority) c.attrs.view_is),
    )
    c.put_pixels-in-Sfx.ensures

pub returns-in-Window : goal.returns-in-Window
returns-in-Window c =
    rw (
      sym (ap (λ (s : ObjAttrs). s.objmode) c.attrs.view_is) ∙ c.in-Window.is,
      sym (ap (λ (s : ObjAttrs). s.priority) c.attrs.view_is),
    )
    c.put_pixels-in-Window.ensures

pub returns-in-Forbidden : goal.returns-in-Forbidden
returns-in-Forbidden c =
    rw (
      sym (ap (λ (s : ObjAttrs). s.objmode) c.attrs.view_is) ∙ c.in-Forbidden.is,
      sym (ap (λ (s : ObjAttrs). s.priority) c.attrs.view_is),
    )
    (put_box_forbidden _ _ _ _ _ _ c.fits-entries)

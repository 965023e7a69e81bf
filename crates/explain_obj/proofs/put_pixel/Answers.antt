-- explain_obj::put_pixel meets its contract: each arm is what put_pixel has for its mode.
-- Assumes nothing.
use mathlib.Core.Path.{sym, ◌∙◌}
use Rattle.obj.proofs.Pixels.{put_pixel_forbidden}
use Rattle.explain_obj.proofs.put_pixel.Goals as goal

pub returns-in-Normal : goal.returns-in-Normal
returns-in-Normal c = rw c.in-Normal.is (c.over.ensures ∙ c.pixel.ensures)

pub returns-in-Sfx : goal.returns-in-Sfx
returns-in-Sfx c = rw c.in-Sfx.is (c.over-in-Sfx.ensures ∙ c.pixel-in-Sfx.ensures)

pub returns-in-Window : goal.returns-in-Window
returns-in-Window c = rw c.in-Window.is (c.over-in-Window.ensures ∙ c.pixel-in-Window.ensures)

pub returns-in-Forbidden : goal.returns-in-Forbidden
returns-in-Forbidden c = rw c.in-Forbidden.is (sym (put_pixel_forbidden _ _ _))

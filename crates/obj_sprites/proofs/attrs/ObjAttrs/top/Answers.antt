-- obj_sprites::attrs::ObjAttrs::top meets its contract: the sum without the carry is the place plus 96.
-- Assumes nothing.
use mathlib.Core.Path.{sym}
use borrow.Author.Rules.{rules}
use Rattle.obj_sprites.specs.Place.{top}
use Rattle.obj_sprites.proofs.Places.{y_of_lifted}
use Rattle.obj_sprites.proofs.attrs.ObjAttrs.top.Goals as goal

pub returns : goal.returns
unfolding top
returns c = (rw (sym c.self.view_is) (y_of_lifted _ c.self.invariant.y≤), search rules)

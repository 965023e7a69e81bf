-- obj_sprites::attrs::ObjAttrs::left meets its contract: the sum without the carry is the place plus 272.
-- Assumes nothing.
use mathlib.Core.Path.{sym}
use borrow.Author.Rules.{rules}
use Rattle.obj_sprites.specs.Place.{left}
use Rattle.obj_sprites.proofs.Places.{x_of_lifted}
use Rattle.obj_sprites.proofs.attrs.ObjAttrs.left.Goals as goal

pub returns : goal.returns
unfolding left
returns c = (rw (sym c.self.view_is) (x_of_lifted _ c.self.invariant.x≤), search rules)

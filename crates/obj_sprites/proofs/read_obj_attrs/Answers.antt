-- obj_sprites::read_obj_attrs meets its contract: the three reads are the halfwords of attributes.
-- Assumes nothing.
use Rattle.obj_sprites.specs.Oam.{attributes}
use Rattle.obj_sprites.proofs.read_obj_attrs.Goals as goal

pub returns : goal.returns
unfolding attributes
returns c = cc

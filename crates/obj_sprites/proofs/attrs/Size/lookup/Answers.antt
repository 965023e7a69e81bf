-- obj_sprites::attrs::Size::lookup meets its contract: the code's table is the definition's.
-- Assumes nothing.
use Rattle.obj_sprites.specs.Size.{obj_sizes}
use Rattle.obj_sprites.proofs.Decode.{cell, size_is}
use Rattle.obj_sprites.proofs.attrs.Size.lookup.Goals as goal

pub returns : goal.returns
unfolding obj_sizes cell
returns c = size_is c.args.size c.args.shape c.requires

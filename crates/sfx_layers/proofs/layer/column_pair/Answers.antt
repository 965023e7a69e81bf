-- sfx_layers::layer::column_pair meets its contract: the object is put over what the backgrounds make.
-- Assumes nothing.
use Rattle.sfx_layers.specs.Code.{column_pair}
use Rattle.sfx_layers.proofs.layer.column_pair.Goals as goal

pub returns : goal.returns
unfolding column_pair
returns g c = rw (c.put_object.ensures, c.background_pair-backgrounds.ensures, c.is_permitted.ensures)

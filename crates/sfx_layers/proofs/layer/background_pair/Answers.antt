-- sfx_layers::layer::background_pair meets its contract: its four calls are the steps of background_pair.
-- Assumes nothing.
use Rattle.sfx_layers.specs.Code.{background_pair}
use Rattle.sfx_layers.proofs.layer.background_pair.Goals as goal

pub returns : goal.returns
unfolding background_pair
returns g c =
    rw (
      c.put_background.ensures,
      c.put_background-second.ensures,
      c.put_background-third.ensures,
      c.put_background-fourth.ensures,
      c.is_permitted.ensures,
      c.is_permitted-2.ensures,
      c.is_permitted-3.ensures,
      c.is_permitted-4.ensures,
    )

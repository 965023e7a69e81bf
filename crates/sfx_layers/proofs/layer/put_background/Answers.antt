-- sfx_layers::layer::put_background meets its contract: each halfword is chosen by the test of put_background.
-- Assumes nothing.
use Rattle.sfx_layers.specs.Code.{put_background}
use Rattle.sfx_layers.proofs.layer.put_background.Goals as goal

pub returns : goal.returns
unfolding put_background
returns c =
    rw (
      c.choose.ensures,
      c.choose-2.ensures,
      c.choose-3.ensures,
      c.choose-4.ensures,
      c.is_seen-over.ensures,
    )

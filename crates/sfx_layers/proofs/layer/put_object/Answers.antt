-- sfx_layers::layer::put_object meets its contract: each halfword is chosen by the two tests of put_object.
-- Assumes nothing.
use Rattle.sfx_layers.specs.Code.{put_object}
use Rattle.sfx_layers.proofs.layer.put_object.Goals as goal

pub returns : goal.returns
unfolding put_object
returns c =
    rw (
      c.choose.ensures,
      c.choose-2.ensures,
      c.choose-4.ensures,
      c.choose-3.ensures,
      c.choose-6.ensures,
      c.choose-5.ensures,
    )
    (rw c.is_seen-shown.ensures)

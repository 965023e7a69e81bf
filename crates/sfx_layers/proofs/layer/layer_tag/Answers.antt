-- sfx_layers::layer::layer_tag meets its contract: its bits are those of layer_tag.
-- Assumes nothing.
use Rattle.sfx_layers.specs.Code.{layer_tag}
use Rattle.sfx_layers.proofs.layer.layer_tag.Goals as goal

pub returns : goal.returns
unfolding layer_tag
returns c =
    rw (c.bit_of-first.ensures.0, c.contains_render_layer.ensures)
    (rw (c.bit_of-second.ensures.0, c.contains_render_layer-2.ensures))

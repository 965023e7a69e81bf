-- explain::compose_reason meets its contract: its calls give the parts of the case.
-- Assumes nothing.
use mathlib.Core.Path.{◌∙◌}
use Rattle.explain.proofs.Cases.{reason_found}
use Rattle.explain.proofs.compose_reason.Goals as goal

pub returns : goal.returns
returns c =
    rw (← c.memory.view_is)
    (reason_found _ _ _ _ _ _ _
    c.column_region-kind.ensures
    c.window_flags-flags.ensures
    (rw c.read_backdrop.ensures at c.column_layers-layers.ensures)
    c.column_effect-effect.result
    c.column_effect-effect.ensures
    c.effect_weights-weights.ensures
    c.region_number.ensures
    (c.from.ensures ∙ c.target_bit.ensures.0)
    (c.from-2.ensures ∙ c.target_bit-2.ensures.0)
    c.from-3.ensures
    c.pixel.ensures)

-- sfx_effects::fade_weight meets its contract: the choice is that of fade_weight, and the weight is at most 16.
-- Assumes nothing.
use native.Mathlib.Omega.{arith}
use Rattle.sfx_effects.specs.Code.{fade_weight}
use Rattle.sfx_effects.proofs.Bounds.{cond_bound}
use Rattle.sfx_effects.proofs.fade_weight.Goals as goal

pub returns : goal.returns
unfolding fade_weight
returns c = (
  rw (c.choose.ensures, c.is_faded.ensures),
  rw c.choose.ensures (cond_bound c.is_faded.result _ 0 c.args.weights.evy_bound (omega arith)),
)

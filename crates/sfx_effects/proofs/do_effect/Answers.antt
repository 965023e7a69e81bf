-- sfx_effects::do_effect meets its contract: its calls give whether the layers are blended, the other colour and the two weights.
-- Assumes nothing.
use Rattle.sfx_effects.specs.Code.{pair_color}
use Rattle.sfx_effects.proofs.Bounds.{cond_bound, fade_bound}
use Rattle.sfx_effects.proofs.do_effect.Goals as goal

pub returns : goal.returns
unfolding pair_color
returns g c =
    rw (c.blend_with.ensures, c.choose-other_weight.ensures, c.choose-my_weight.ensures, c.choose-other.ensures)
    (rw (c.fade_color.ensures, c.fade_weight-evy.ensures.0, c.is_blended.ensures, c.mode-mode.ensures))

pub blend_with-requires : goal.blend_with-requires
blend_with-requires g c =
    let weighed = c.args.weights in
    let fade≤ = fade_bound c.fade_weight-evy.ensures.1 in (
      rw c.choose-my_weight.ensures (cond_bound _ _ _ weighed.eva_bound fade≤.0),
      rw c.choose-other_weight.ensures (cond_bound _ _ _ weighed.evb_bound fade≤.1),
    )

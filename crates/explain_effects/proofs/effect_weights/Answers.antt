-- explain_effects::effect_weights meets its contract: a blend's weights, a fade's, or 16 and 0.
-- Assumes nothing.
use borrow.Author.Rules.{rules}
use mathlib.Core.Logic.{⊎_elim}
use Rattle.explain_effects.proofs.Weighed.{weights_blend, weights-fade}
use Rattle.explain_effects.proofs.effect_weights.Goals as goal

pub returns-in-SpriteBlend : goal.returns-in-SpriteBlend
returns-in-SpriteBlend c =
    ⊎_elim (λ e. rw e (search (rules, weights_blend))) (λ e. rw e (search (rules, weights_blend))) c.in-SpriteBlend.is

pub returns-in-White : goal.returns-in-White
returns-in-White c = ⊎_elim (λ e. rw e (search (rules, weights-fade))) (λ e. rw e (search (rules, weights-fade))) c.in-White.is

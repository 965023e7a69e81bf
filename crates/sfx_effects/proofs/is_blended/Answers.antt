-- sfx_effects::is_blended meets its contract: its test is that of is_blended.
-- Assumes nothing.
use borrow.Author.Rules.{rules}
use Rattle.sfx_effects.specs.Code.{is_blended}
use Rattle.sfx_effects.proofs.is_blended.Goals as goal

pub returns : goal.returns
unfolding is_blended
returns c = search rules

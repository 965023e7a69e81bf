-- sfx_effects::is_faded meets its contract: its test is that of is_faded.
-- Assumes nothing.
use borrow.Author.Rules.{rules}
use Rattle.sfx_effects.specs.Code.{is_faded}
use Rattle.sfx_effects.proofs.is_faded.Goals as goal

pub returns : goal.returns
unfolding is_faded
returns c = search rules

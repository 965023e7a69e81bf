-- sfx_sorting::sort_keys meets its contract: its ten calls are the exchanges of sorted_keys.
-- Assumes nothing.
use Rattle.sfx_sorting.specs.Code.{sorted_keys}
use Rattle.sfx_sorting.proofs.sort_keys.Goals as goal

pub returns : goal.returns
unfolding sorted_keys
returns c = cc

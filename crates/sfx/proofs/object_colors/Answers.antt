-- sfx::object_colors meets its contract: each column has its entry's colour.
-- Assumes nothing.
use borrow.Author.Rules.{rules}
use Rattle.rows.proofs.Made.{made_tab}
use Rattle.sfx.proofs.object_colors.Goals as goal

pub returns : goal.returns
returns c = made_tab _ _ _ _ _ 0 (λ i y q i< k. search rules) c.from_fn.ensures.items

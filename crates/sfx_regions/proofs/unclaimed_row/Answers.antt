-- sfx_regions::unclaimed_row meets its contract: with the object window off every column is outside.
-- Assumes nothing.
use borrow.Author.Rules.{rules}
use Rattle.rows.proofs.Made.{made_tab}
use Rattle.rows.proofs.Tab.{tab_replicate}
use Rattle.sfx_regions.proofs.unclaimed_row.Goals as goal

pub returns-then-obj_window : goal.returns-then-obj_window
returns-then-obj_window c =
    rw c.if-obj_window.true (made_tab _ _ _ _ _ 0 (λ i y q i< k. search rules) c.from_fn.ensures.items)

pub returns-else-obj_window : goal.returns-else-obj_window
returns-else-obj_window c = rw c.if-obj_window.false (tab_replicate _ 240)

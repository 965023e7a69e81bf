-- explain::entry_after meets its contract: the sprites' pass at the column, if sprites are on.
-- Assumes nothing.
use Rattle.gpu.proofs.Lines.{read_of}
use Rattle.explain.proofs.Columns.{entry_on, entry_off}
use Rattle.explain.proofs.entry_after.Goals as goal

pub returns-then-dispcnt : goal.returns-then-dispcnt
returns-then-dispcnt c =
    entry_on _ _ _ (read_of c.memory.view_is c.read_dispcnt-dispcnt.ensures) c.entry_at-e.ensures c.if-dispcnt.true
    c.column_entry.ensures c.requires.1

pub returns-else-dispcnt : goal.returns-else-dispcnt
returns-else-dispcnt c =
    entry_off _ _ _ (read_of c.memory.view_is c.read_dispcnt-dispcnt.ensures) c.entry_at-e.ensures c.if-dispcnt.false

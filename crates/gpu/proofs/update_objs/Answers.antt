-- gpu::update_objs meets its contract: sprites run only if they are on.
-- Assumes nothing.
use Rattle.gpu.proofs.Lines.{read_of, entries_on, entries_off}
use Rattle.gpu.proofs.update_objs.Goals as goal

pub returns-then-display : goal.returns-then-display
returns-then-display c =
    entries_on _ _ (read_of c.memory.view_is c.read_dispcnt-display.ensures) c.if-display.true c.render_objs.ensures

pub returns-else-display : goal.returns-else-display
returns-else-display c = entries_off _ _ (read_of c.memory.view_is c.read_dispcnt-display.ensures) c.if-display.false

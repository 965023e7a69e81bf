-- gpu::bg_line meets its contract: with the switch on it is the background's line, else a transparent one.
-- Assumes nothing.
use Rattle.gpu.proofs.Lines.{line_on, line_off}
use Rattle.gpu.proofs.bg_line.Goals as goal

pub returns-then-on : goal.returns-then-on
returns-then-on c = line_on _ _ _ _ _ _ c.if-on.true c.render_bg.ensures

pub returns-else-on : goal.returns-else-on
returns-else-on c = line_off _ _ _ _ _ _ c.if-on.false

-- regs_window::Window::contains_y meets its contract: its two tests are those of the definition.
-- Assumes nothing.
use Rattle.regs_window.proofs.Laws.{inside_is}
use Rattle.regs_window.proofs.Window.contains_y.Goals as goal

pub returns : goal.returns
returns c = inside_is _ _ _ _ c.top-top.ensures c.bottom-bottom.ensures.0

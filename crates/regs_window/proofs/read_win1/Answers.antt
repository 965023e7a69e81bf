-- regs_window::read_win1 meets its contract: the words and the flags are of the halfwords that were read.
-- Assumes nothing.
use Rattle.regs_window.proofs.Laws.{high_flags}
use Rattle.regs_window.proofs.read_win1.Goals as goal

pub returns : goal.returns
returns c =
    let permitted = high_flags c.from-flags.ensures c.read_16.ensures in
    rw (c.read_16-2.ensures, c.read_16-3.ensures, permitted) at c.new.ensures

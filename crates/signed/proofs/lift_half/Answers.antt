-- signed::lift_half meets its contract: its sum without the carry is that of signed16_lifted.
-- Assumes nothing.
use native.Mathlib.Omega.{arith}
use Rattle.signed.proofs.Words.{signed16_lifted}
use Rattle.signed.proofs.lift_half.Goals as goal

pub returns : goal.returns
returns c = rw c.from.ensures (signed16_lifted c.args.h (omega arith), omega arith)

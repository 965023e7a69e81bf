-- signed::drop_word meets its contract: the difference wraps, and a word is that of the number it reads as.
-- Assumes nothing.
use native.Mathlib.Omega.{arith}
use Rattle.signed.proofs.Words.{signed32_dropped, word32_is}
use Rattle.signed.proofs.drop_word.Goals as goal

pub returns : goal.returns
returns c = let read = signed32_dropped c.args.r c.requires in (read, word32_is _ _ (omega arith) read)

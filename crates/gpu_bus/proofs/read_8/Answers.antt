-- gpu_bus::read_8 meets its contract: a law for each return.
-- Assumes nothing.
use borrow.Author.Rules.{rules}
use Rattle.gpu_bus.proofs.Answers.{reads}
use Rattle.gpu_bus.proofs.read_8.Goals as goal

pub returns-then-not-have_lengths : goal.returns-then-not-have_lengths
returns-then-not-have_lengths c = search (rules, reads)

pub returns-in-Palram : goal.returns-in-Palram
returns-in-Palram c = search (rules, reads)

pub returns-in-Vram : goal.returns-in-Vram
returns-in-Vram c = search (rules, reads)

pub returns-in-Oam : goal.returns-in-Oam
returns-in-Oam c = search (rules, reads)

pub returns-in-Other : goal.returns-in-Other
returns-in-Other c = search (rules, reads)

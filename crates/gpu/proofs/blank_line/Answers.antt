-- gpu::blank_line meets its contract: a turn puts its pixel.
-- Assumes nothing.
use borrow.Author.Rules.{rules}
use Rattle.rows.specs.Words.{word_cells}
use Rattle.rows.proofs.Passed.{started, turned, filled}
use Rattle.gpu.proofs.blank_line.Goals as goal

pub loop-x-init : goal.loop-x-init
loop-x-init c = search (rules, started word_cells)

pub loop-x-preserved : goal.loop-x-preserved
loop-x-preserved c = search (rules, turned word_cells)

pub returns : goal.returns
returns c = search (rules, filled word_cells)

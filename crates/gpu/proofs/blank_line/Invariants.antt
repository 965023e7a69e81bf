-- gpu::blank_line meets its contract: a turn puts its pixel.
-- Assumes nothing.
use Rattle.rows.specs.Words.{word_cells}
use Rattle.rows.proofs.Passed.{Passed}
use Rattle.gpu.proofs.blank_line.Given as goal

abbrev pub invariant-loop-x : goal.invariant-loop-x
invariant-loop-x l = Passed word_cells (λ _ _. 0xf8f8f8) 240 l.initial.output l.x l.output

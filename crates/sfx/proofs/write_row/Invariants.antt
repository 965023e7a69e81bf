-- sfx::write_row meets its contract: a turn puts its column's pixel in its cell.
-- Assumes nothing.
use Rattle.rgb15.specs.Colour.{to_rgb24}
use Rattle.rows.specs.Words.{word_cells}
use Rattle.rows.proofs.Passed.{Passed}
use Rattle.sfx_layers.specs.Code.{line_color}
use Rattle.sfx.proofs.write_row.Given as goal

abbrev pub invariant-loop-column : goal.invariant-loop-column
invariant-loop-column l =
    Passed word_cells (λ k _. to_rgb24 (line_color l.colors k)) 240 l.initial.output l.column l.output

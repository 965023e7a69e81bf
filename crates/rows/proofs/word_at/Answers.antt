-- rows::word_at meets its contract: four reads in ascending order are the codec's, by computation.
-- Assumes nothing.
use borrow.Author.Rules.{rules}
use Rattle.rows.specs.Cells.{cell_at}
use Rattle.rows.specs.Words.{word_cells}
use Rattle.rows.proofs.Bytes.{bytes_at, bytes_from_at}
use Rattle.rows.proofs.word_at.Goals as goal

pub returns : goal.returns
unfolding cell_at bytes_at word_cells
returns c = rw bytes_from_at (search rules)

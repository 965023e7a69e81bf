-- rows::put_word meets its contract: four stores in ascending order are the codec's, by computation.
-- Assumes nothing.
use borrow.Author.Rules.{rules}
use Rattle.rows.specs.Cells.{put_cell}
use Rattle.rows.specs.Words.{word_cells}
use Rattle.rows.proofs.Bytes.{put_at, put_from_at}
use Rattle.rows.proofs.put_word.Goals as goal

pub returns : goal.returns
unfolding put_cell put_at word_cells
returns c = rw put_from_at (search rules)

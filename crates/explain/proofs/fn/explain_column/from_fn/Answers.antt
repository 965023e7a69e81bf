-- The closure of explain::explain_column meets its contract: the colour is read off the background's line.
-- Assumes nothing.
use Rattle.explain.proofs.Columns.{color-read}
use Rattle.explain.proofs.fn.explain_column.from_fn.Goals as goal

pub returns : goal.returns
returns c = color-read _ _ c.bg_line-row.ensures c.requires.1

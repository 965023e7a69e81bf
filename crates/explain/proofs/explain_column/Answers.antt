-- explain::explain_column meets its contract: the reason of its colours and its entry is that of the column.
-- Assumes nothing.
use borrow.Author.Rules.{rules}
use Rattle.rgb15.specs.Colour.{rgb}
use Rattle.rows.proofs.Made.{made_tab}
use Rattle.gpu.proofs.Lines.{read_of}
use Rattle.explain.proofs.Columns.{reason_at}
use Rattle.explain.proofs.explain_column.Goals as goal

pub returns : goal.returns
returns c =
    reason_at c.args.request.now _ _ (read_of c.memory.view_is c.read_dispcnt.ensures).bg_is
    (made_tab _ _ _ _ _ (rgb 0) (λ i y q i<. search rules) c.from_fn-colors.ensures.items)
    c.entry_after-e.ensures c.compose_reason.ensures

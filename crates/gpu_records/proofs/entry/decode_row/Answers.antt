-- gpu_records::entry::decode_row meets its contract: each record is that of its cell.
-- Assumes nothing.
use borrow.Author.Rules.{rules}
use Rattle.rows.proofs.Made.{made_tab}
use Rattle.gpu_records.specs.Entries.{records_in, reset_record}
use Rattle.gpu_records.proofs.entry.decode_row.Goals as goal

pub returns : goal.returns
unfolding records_in
returns c = made_tab _ _ _ _ _ reset_record (λ i y q i<. search rules) c.from_fn.ensures.items

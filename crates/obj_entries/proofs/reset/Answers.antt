-- obj_entries::reset meets its contract: its test is that of the definition, and the row is reset after it.
-- Assumes nothing.
use mathlib.Core.Path.{◌≡◌}
use lib.ListN.{length}
use borrow.Author.Rules.{rules}
use borrow.Author.Tests.{eq-eqb, ne_eqb}
use Rattle.refusals.specs.Refusal.{refusal_number, outcome_number}
use Rattle.obj_entries.specs.Entry.{entries_size}
use Rattle.obj_entries.specs.Reset.{reset}
use Rattle.obj_entries.proofs.reset.Goals as goal

pub returns-then-entries-ne-ENTRIES_SIZE : goal.returns-then-entries-ne-ENTRIES_SIZE
unfolding reset outcome_number refusal_number
returns-then-entries-ne-ENTRIES_SIZE c = rw (ne_eqb _ entries_size c.if-entries-ne-ENTRIES_SIZE.true)

pub returns : goal.returns
unfolding reset outcome_number
returns c = let size : length c.args.entries.now ≡ entries_size = search rules in rw (eq-eqb _ entries_size size, c.reset_row.ensures)

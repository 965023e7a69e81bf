-- obj_entries::put_unless meets its contract: the word that is put is the one read, or that of the entry.
-- Assumes nothing.
use borrow.Author.Rules.{rules}
use Rattle.obj_entries.proofs.Entries.{put_cell_chosen}
use Rattle.obj_entries.proofs.put_unless.Goals as goal

pub returns : goal.returns
returns c = search (rules, put_cell_chosen)

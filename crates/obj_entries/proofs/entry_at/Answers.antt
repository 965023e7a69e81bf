-- obj_entries::entry_at meets its contract: the word holds the bytes that the codec reads.
-- Assumes nothing.
use borrow.Author.Rules.{rules}
use Rattle.obj_entries.proofs.Entries.{entry-of-word}
use Rattle.obj_entries.proofs.entry_at.Goals as goal

pub returns : goal.returns
returns c = search (rules, entry-of-word)

-- obj_entries::put_entry meets its contract: the word that is put is the entry's.
-- Assumes nothing.
use Rattle.obj_entries.proofs.Entries.{put_cell_as_word}
use Rattle.obj_entries.proofs.put_entry.Goals as goal

pub returns : goal.returns
returns c = put_cell_as_word _ _ _ c.from.ensures c.put_word.ensures

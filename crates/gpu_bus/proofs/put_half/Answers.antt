-- gpu_bus::put_half meets its contract: two stores in ascending order are put_from, by computation.
-- Assumes nothing.
use borrow.Author.Rules.{rules}
use Rattle.rows.proofs.Bytes.{put_at, put_from_at}
use Rattle.gpu_bus.proofs.put_half.Goals as goal

pub returns : goal.returns
unfolding put_at
returns c = rw (put_from_at, c.to_le_bytes.ensures) (search rules)

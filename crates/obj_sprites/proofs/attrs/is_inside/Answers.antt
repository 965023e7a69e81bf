-- obj_sprites::attrs::is_inside meets its contract: both tests are those of within.
-- Assumes nothing.
use mathlib.Core.Path.{sym}
use Rattle.signed.proofs.Remainder.{within-subℕ}
use Rattle.obj_sprites.proofs.attrs.is_inside.Goals as goal

pub returns : goal.returns
returns c = sym (within-subℕ c.args.at c.args.from c.args.size)

-- obj_sprites::obj_tiles_start meets its contract: the test is that of the choice.
-- Assumes nothing.
use mathlib.Core.Path.{refl}
use borrow.Author.Tests.{lt-ltb, le-ltb}
use Rattle.obj_sprites.specs.Tiles.{tiles_start}
use Rattle.obj_sprites.proofs.obj_tiles_start.Goals as goal

pub returns-then-mode-lt3 : goal.returns-then-mode-lt3
unfolding tiles_start
returns-then-mode-lt3 c = simp (lt-ltb _ _ c.if-mode-lt3.true) (refl, refl)

pub returns-else-mode-lt3 : goal.returns-else-mode-lt3
unfolding tiles_start
returns-else-mode-lt3 c = simp (le-ltb _ _ c.if-mode-lt3.false) (refl, refl)

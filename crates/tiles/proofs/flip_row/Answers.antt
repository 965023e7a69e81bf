-- tiles::flip_row meets its contract: a row the other way round has at each place what flip names.
-- Assumes nothing.
use mathlib.Core.Path.{refl}
use Rattle.std.proofs.Common.{rules}
use Rattle.rgb15.specs.Colour.{rgb}
use Rattle.rows.proofs.Tab.{tab_ext}
use Rattle.tiles.specs.Flip.{flip}
use Rattle.tiles.proofs.flip_row.Goals as goal

pub returns-then-flipped : goal.returns-then-flipped
unfolding flip
returns-then-flipped c = rw c.if-flipped.true (tab_ext _ 8 (rgb 0) _ (search rules) (λ k k<. search rules))

pub returns-else-flipped : goal.returns-else-flipped
unfolding flip
returns-else-flipped c = rw c.if-flipped.false (tab_ext _ 8 (rgb 0) _ (search rules) (λ k k<. refl))

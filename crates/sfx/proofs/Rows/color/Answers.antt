-- sfx::Rows::color meets its contract: its calls are the steps of column_color.
-- Assumes nothing.
use Rattle.sfx.specs.Code.{column_color}
use Rattle.sfx.proofs.Rows.color.Goals as goal

pub returns : goal.returns
unfolding column_color
returns g c = rw (c.do_effect.ensures, c.column_pair-layers.ensures, c.is_permitted.ensures)

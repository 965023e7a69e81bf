-- sfx::Rows::is_plain meets its contract: a turn asks one tag more.
-- Assumes nothing.
use mathlib.Core.Path.{refl, sym, ap₂, ◌∙◌}
use mathlib.Core.Bool.{◌&&◌}
use Rattle.rows.proofs.Below.{all_below_none, all_below_more}
use Rattle.sfx.proofs.Rows.is_plain.Goals as goal

pub loop-column-init : goal.loop-column-init
loop-column-init c = sym (all_below_none _)

pub loop-column-preserved : goal.loop-column-preserved
loop-column-preserved c = ap₂ ◌&&◌ c.loop-column.invariant refl ∙ sym (all_below_more _ _)

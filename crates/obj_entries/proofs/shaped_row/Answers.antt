-- obj_entries::shaped_row meets its contract: a turn asks one entry more.
-- Assumes nothing.
use mathlib.Core.Path.{sym, ap, ap₂, ◌∙◌}
use mathlib.Core.Bool.{◌&&◌}
use Rattle.obj_entries.specs.Entry.{well_shaped}
use Rattle.rows.proofs.Below.{all_below_none, all_below_more}
use Rattle.obj_entries.proofs.Entries.{entry-of-word}
use Rattle.obj_entries.proofs.shaped_row.Goals as goal

pub loop-k-init : goal.loop-k-init
loop-k-init c = sym (all_below_none _)

pub loop-k-preserved : goal.loop-k-preserved
loop-k-preserved c =
    let asked = c.is_well_shaped-shaped.ensures ∙ ap well_shaped (entry-of-word _ c.fits-entries _ c.word_at.ensures) in
    ap₂ ◌&&◌ c.loop-k.invariant asked ∙ sym (all_below_more _ _)

-- explain_obj::box_column meets its contract: the test is that of the columns between the box's ends.
-- Assumes nothing.
use mathlib.Core.Path.{sym, ◌∙◌}
use Rattle.obj_sprites.proofs.Places.{within_bounds}
use Rattle.explain_obj.proofs.Columns.{box_some, box_none}
use Rattle.explain_obj.proofs.box_column.Goals as goal

pub overflow_sub-result : goal.overflow_sub-result
overflow_sub-result c = (within_bounds _ _ _ (sym c.is_inside.ensures ∙ c.if-is_inside.true)).0

pub returns-then-is_inside : goal.returns-then-is_inside
returns-then-is_inside c = box_some _ _ _ (within_bounds _ _ _ (sym c.is_inside.ensures ∙ c.if-is_inside.true))

pub returns-else-is_inside : goal.returns-else-is_inside
returns-else-is_inside c = box_none _ _ _ c.requires.2 (sym c.is_inside.ensures ∙ c.if-is_inside.false)

-- explain_layers::column_layers meets its contract: its five steps are those of the backgrounds' places and of the object.
-- Assumes nothing.
use mathlib.Core.Path.{refl}
use Rattle.explain_layers.proofs.Columns.{layers_of-steps}
use Rattle.explain_layers.proofs.column_layers.Goals as goal

pub returns : goal.returns
returns c =
    layers_of-steps _ _ _ _ _ c.sort_backgrounds-places.ensures _
    refl
    c.put_place-fourth.ensures
    c.put_place-third.ensures
    c.put_place-second.ensures
    c.put_place-first.ensures
    c.obj_enabled.ensures
    c.read_dispcnt-dispcnt.ensures.obj_is
    c.put_object.ensures

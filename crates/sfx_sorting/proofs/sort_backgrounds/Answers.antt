-- sfx_sorting::sort_backgrounds meets its contract: the places of its sorted keys are those of the order.
-- Assumes nothing.
use Rattle.sfx_sorting.proofs.Sorting.{places_sorted}
use Rattle.sfx_sorting.proofs.sort_backgrounds.Goals as goal

pub returns : goal.returns
returns c =
    places_sorted _
    c.read_dispcnt.ensures.bg_is
    c.sort_key.ensures
    c.sort_key-2.ensures
    c.sort_key-3.ensures
    c.sort_key-4.ensures
    c.sort_keys-keys.ensures
    c.key_place.ensures
    c.key_place-2.ensures
    c.key_place-3.ensures
    c.key_place-4.ensures

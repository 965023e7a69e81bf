-- sfx_layers::region::region_word meets its contract: its bits are those of region_word.
-- Assumes nothing.
use lib.ListN.{get_or-map}
use Rattle.std.specs.Prelude.{None}
use Rattle.sfx_sorting.specs.Code.{number_in}
use Rattle.sfx_layers.specs.Code.{region_word}
use Rattle.sfx_layers.proofs.region.region_word.Goals as goal

pub returns : goal.returns
unfolding region_word
returns c =
    let number = get_or-map number_in c.args.places in
    rw (
      number 0 None,
      number 1 None,
      number 2 None,
      number 3 None,
      c.place_bit.ensures.0,
      c.place_bit-2.ensures.0,
      c.place_bit-3.ensures.0,
      c.place_bit-4.ensures.0,
      c.bit_of.ensures.0,
      c.obj_enabled.ensures,
      c.bit_of-2.ensures.0,
      c.sfx_enabled.ensures,
    )

-- sfx_layers::layer::line_layers meets its contract: each place has its tag, and the rest is read.
-- Assumes nothing.
use mathlib.Core.Path.{sym}
use borrow.Author.Rules.{rules}
use lib.ListN.{get_or-map}
use Rattle.std.specs.Prelude.{None}
use Rattle.rows.proofs.Made.{made_tab}
use Rattle.sfx_sorting.specs.Code.{number_in}
use Rattle.sfx_layers.proofs.layer.line_layers.Goals as goal

pub returns : goal.returns
returns g c =
    let number = get_or-map number_in c.in_places-places.result in
    record {
      places_are =
          rw (sym c.in_places-places.ensures)
          (made_tab _ _ _ _ _ 0 (λ i y q i< k. rw (number i None) (search rules)) c.from_fn.ensures.items);
      object_is = search rules;
      backdrop_is = search rules;
      backdrop_tag_is = search rules;
      mode_is = search rules;
    }

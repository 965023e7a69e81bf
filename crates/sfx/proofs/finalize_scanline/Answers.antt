-- sfx::finalize_scanline meets its contract: the row that its calls make has each column's pixel.
-- Assumes nothing.
use Rattle.sfx_layers.proofs.Marks.{unmarked, object_bound}
use Rattle.sfx.proofs.Columns.{scanline_is}
use Rattle.sfx.proofs.finalize_scanline.Goals as goal

pub object_tags-requires : goal.object_tags-requires
object_tags-requires c = search object_bound

pub compose-colors-requires : goal.compose-colors-requires
compose-colors-requires c = unmarked c.line_layers-layers.ensures

pub returns : goal.returns
returns c =
    scanline_is _ _ _ _ _ _ _
    c.sort_backgrounds-places.ensures
    c.line_layers-layers.ensures
    c.line_weights.ensures
    (record {
      regions_are = c.line_regions.ensures;
      tags_are = c.object_tags.ensures;
      objects_are = c.object_colors.ensures;
      first_is = c.line_in_place.ensures;
      second_is = c.line_in_place-2.ensures;
      third_is = c.line_in_place-3.ensures;
      fourth_is = c.line_in_place-4.ensures;
    })
    c.compose-colors.ensures
    c.write_row.ensures

-- bg::render_bg meets its contract: each kind's line is that kind's clause of the definition, and the kind is the mode's.
-- Assumes nothing.
use Rattle.bg.proofs.Modes.{affine-from_two, bitmap-from_two, bg_affine_liftable}
use Rattle.bg.proofs.Modes.{regular_line_is, affine_line_is, bitmap_line_is, absent_line_is}
use Rattle.bg.proofs.render_bg.Goals as goal

pub read_bg_affine-affine-requires : goal.read_bg_affine-affine-requires
read_bg_affine-affine-requires c =
    let from = affine-from_two _ _ c.read_dispcnt-dispcnt.ensures c.of.ensures c.in-Affine.is in
    (from c.requires.mode< c.requires.bg<, c.requires.bg<)

pub render_picture-requires : goal.render_picture-requires
render_picture-requires c = (c.from.ensures.1, bg_affine_liftable c.requires.ranges c.read_bg_affine-affine.ensures)

pub read_bg_affine-affine-requires-in-Bitmap : goal.read_bg_affine-affine-requires-in-Bitmap
read_bg_affine-affine-requires-in-Bitmap c =
    let from = bitmap-from_two _ _ c.read_dispcnt-dispcnt.ensures c.of.ensures c.in-Bitmap.is in
    (from c.requires.mode< c.requires.bg<, c.requires.bg<)

pub render_picture-requires-in-Bitmap : goal.render_picture-requires-in-Bitmap
render_picture-requires-in-Bitmap c = (c.new.ensures.1, bg_affine_liftable c.requires.ranges c.read_bg_affine-affine-in-Bitmap.ensures)

pub returns-in-Regular : goal.returns-in-Regular
returns-in-Regular c =
    regular_line_is _ _ c.read_dispcnt-dispcnt.ensures c.of.ensures _ _ _ _ c.read_16-control.ensures
    c.in-Regular.is c.read_hofs.ensures c.read_vofs.ensures c.render.ensures

pub returns-in-Affine : goal.returns-in-Affine
returns-in-Affine c =
    affine_line_is _ _ c.read_dispcnt-dispcnt.ensures c.of.ensures _ _ _ _ c.read_16-control.ensures
    c.read_bg_affine-affine.ensures c.in-Affine.is c.from.ensures.0 c.render_picture.ensures

pub returns-in-Bitmap : goal.returns-in-Bitmap
returns-in-Bitmap c =
    bitmap_line_is _ _ c.read_dispcnt-dispcnt.ensures c.of.ensures _ _ _ _ c.read_16-control.ensures
    c.read_bg_affine-affine-in-Bitmap.ensures c.in-Bitmap.is c.new.ensures.0 c.render_picture-in-Bitmap.ensures

pub returns-in-Absent : goal.returns-in-Absent
returns-in-Absent c =
    absent_line_is _ _ c.read_dispcnt-dispcnt.ensures c.of.ensures _ _ _ _ c.in-Absent.is

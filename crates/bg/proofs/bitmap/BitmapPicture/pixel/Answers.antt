-- bg::bitmap::Bitmap's pixel meets its contract: the two reads are those of bitmap_pixel.
-- Assumes nothing.
use Rattle.bg.proofs.Pixels.{bitmap_pixel-byte, bitmap_pixel-half}
use Rattle.bg.proofs.bitmap.BitmapPicture.pixel.Goals as goal

pub returns-then-self-eq4 : goal.returns-then-self-eq4
returns-then-self-eq4 c =
    bitmap_pixel-byte _ _ _ _ _ _ _ c.if-self-eq4.true c.read_8.ensures.0 c.get_palette_color.ensures

pub returns-else-self-eq4 : goal.returns-else-self-eq4
returns-else-self-eq4 c = bitmap_pixel-half _ _ _ _ _ _ _ c.if-self-eq4.false c.read_16.ensures

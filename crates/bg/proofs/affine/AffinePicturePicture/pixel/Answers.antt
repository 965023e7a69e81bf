-- bg::affine::AffinePicture's pixel meets its contract: the tile is the map's byte.
-- Assumes nothing.
use Rattle.bg.proofs.Pixels.{affine_pixel_is}
use Rattle.bg.proofs.affine.AffinePicturePicture.pixel.Goals as goal

pub returns : goal.returns
returns c = affine_pixel_is _ _ _ _ _ _ _ c.read_8-tile_index.ensures.0 c.color.ensures

-- obj_texels::affine::get_affine_matrix meets its contract: the four reads are the halfwords of matrix, each lifted.
-- Assumes nothing.
use borrow.Author.Rules.{rules}
use Rattle.obj_sprites.specs.Oam.{matrix}
use Rattle.obj_sprites.proofs.Decode.{signed16-read}
use Rattle.obj_texels.proofs.affine.get_affine_matrix.Goals as goal

pub returns : goal.returns
unfolding matrix
returns c = search (rules, signed16-read)

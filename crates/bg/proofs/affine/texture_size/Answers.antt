-- bg::affine::texture_size meets its contract: 128 shifted by a size loses no bit, and the bias is a multiple of each side.
-- Assumes nothing.
use native.Mathlib.Omega.{arith}
use lib.Pow.{shl_exact}
use borrow.Author.Rules.{rules}
use Rattle.signed.proofs.Point.{point_sides}
use Rattle.bg.proofs.Pixels.{affine_side_bound}
use Rattle.bg.proofs.affine.texture_size.Goals as goal

pub returns : goal.returns
returns c = rw (shl_exact {a = 128} 8 c.args.size 32 (omega arith) (omega arith)) (search (rules, point_sides, affine_side_bound))

-- obj_texels::affine::point_at meets its contract: the product is bounded, and it computes as point_at does.
-- Assumes nothing.
use Prim.Native.Nat.{◌*◌, ◌≤◌}
use native.Mathlib.Omega.{arith}
use Rattle.obj_texels.proofs.Turns.{scaled_bound}
use Rattle.obj_texels.proofs.affine.point_at.Goals as goal

product : (c : goal.Start) → c.args.p * c.args.i ≤ 65535 * 127
product c = scaled_bound c.args.p c.args.i 127 c.requires.p< c.requires.i≤

pub pixel_of-requires : goal.pixel_of-requires
pixel_of-requires c = omega (arith, product c)

-- obj_texels::affine::turn_start meets its contract: each product is bounded, so that what is taken off is less.
-- Assumes nothing.
use Prim.Native.Nat.{◌*◌, ◌≤◌}
use borrow.Author.Rules.{rules}
use Rattle.obj_texels.proofs.Turns.{scaled_bound}
use Rattle.obj_texels.proofs.affine.turn_start.Goals as goal

bounds : (c : goal.Start)
    → let at = c.args in
    (at.q * at.row ≤ 65535 * 127) × (at.p * at.half_width ≤ 65535 * 64) × (at.q * at.half_height ≤ 65535 * 64)
bounds c =
    let at = c.args in
    let pre = c.requires in (
      scaled_bound at.q at.row 127 pre.q< pre.j≤,
      scaled_bound at.p at.half_width 64 pre.p< pre.m≤,
      scaled_bound at.q at.half_height 64 pre.q< pre.k≤,
    )

pub returns : goal.returns
returns c = let small = bounds c in search rules

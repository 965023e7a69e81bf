-- obj_texels::affine::affine_row meets its contract: a turn sets its column's colour, and the others stay transparent.
-- Assumes nothing.
use native.Mathlib.Omega.{arith}
use mathlib.Core.Path.{ap, ◌∙◌}
use lib.ListN.{length-replicate}
use Rattle.rgb15.specs.Colour.{rgb, transparent}
use Rattle.rows.proofs.Tabbed.{mapped-from, mapped-inside, mapped_to}
use Rattle.obj_texels.proofs.Texels.{affine_texel-row}
use Rattle.obj_texels.proofs.affine.affine_row.Goals as goal

pub loop-i-init : goal.loop-i-init
loop-i-init c = mapped-from (length-replicate 128 (rgb transparent)) (omega (arith, c.args.span.ordered))

pub loop-i-preserved : goal.loop-i-preserved
loop-i-preserved c =
    mapped-inside c.loop-i.invariant c.loop-i-test.true c.requires (ap rgb c.point_color.ensures)

pub returns : goal.returns
returns c =
    mapped_to c.loop-i.invariant c.loop-i-test.false
    ∙ affine_texel-row _ _ _ _ _ _ _ _ 128 (rgb 0)

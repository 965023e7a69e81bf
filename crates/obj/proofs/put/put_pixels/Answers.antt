-- obj::put::put_pixels meets its contract: a turn puts its column's colour.
-- Assumes nothing.
use native.Mathlib.Omega.{arith}
use Rattle.obj.proofs.Pixels.{put_up_to_none, put_up_to_more, put_up_to-all, put_column_is}
use Rattle.obj.proofs.put.put_pixels.Goals as goal

pub loop-column-init : goal.loop-column-init
loop-column-init g c = put_up_to_none c.told-entries (omega (arith, c.args.row.span.ordered, c.args.row.in_screen)) c.fits-entries

pub loop-column-preserved : goal.loop-column-preserved
loop-column-preserved g c =
    let put = c.pixel-put in
    put_up_to_more c.loop-column.invariant c.loop-column-test.true c.args.row.in_screen
    (put_column_is _ _ _ _ _ put.result.entry put.result.kept c.entry_at.ensures put.ensures c.put_unless.ensures)

pub returns : goal.returns
returns g c = put_up_to-all c.loop-column.invariant c.loop-column-test.false

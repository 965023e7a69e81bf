-- obj::put::pixel meets its contract: the tests are those of the sprite's kind.
-- Assumes nothing.
use borrow.Author.Tests.{eq-eqb, ne_eqb}
use Rattle.obj.proofs.Pixels.{pixel_marked, pixel_shown}
use Rattle.obj.proofs.put.pixel.Goals as goal

pub returns-then-this-ne0 : goal.returns-then-this-ne0
returns-then-this-ne0 g c =
    rw (ne_eqb g.row.WINDOW 0 c.if-this-ne0.true)
    (pixel_marked c.args.alpha _ _ _ c.is_transparent-clear.ensures c.windowed.ensures)

pub returns-else-this-ne0 : goal.returns-else-this-ne0
returns-else-this-ne0 g c =
    rw (eq-eqb g.row.WINDOW 0 c.if-this-ne0.false)
    (pixel_shown c.args.alpha _ _ _ c.is_transparent-clear.ensures c.shown_by.ensures)

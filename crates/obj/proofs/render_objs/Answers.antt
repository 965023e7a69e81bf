-- obj::render_objs meets its contract: each turn is one sprite's step at every column.
-- Assumes nothing.
use mathlib.Core.Path.{sym, ap}
use Rattle.memory.specs.Memory.{Memory}
use Rattle.obj.proofs.Steps.{sprites_none, sprites_more, sprites-all, source_is}
use Rattle.obj.proofs.render_objs.Goals as goal

pub loop-obj-init : goal.loop-obj-init
loop-obj-init c = sprites_none _ _ _ c.told-entries c.fits-entries

pub loop-obj-preserved : goal.loop-obj-preserved
loop-obj-preserved c = sprites_more _ _ _ c.loop-obj.invariant c.loop-obj-test.true c.put_sprite.ensures

pub returns : goal.returns
returns c =
    let view = c.new-view.ensures in
    rw (sym view.reading_is, sym view.line_is)
    (sprites-all _ _ c.loop-obj.invariant c.loop-obj-test.false c.told-entries
    (source_is _ (ap (λ (m : Memory). m.registers) c.memory.view_is) view))

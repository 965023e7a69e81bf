-- explain_obj::column_entry meets its contract: each turn is one sprite's step.
-- Assumes nothing.
use mathlib.Core.Path.{sym, ap}
use Rattle.memory.specs.Memory.{Memory}
use Rattle.explain_obj.proofs.Columns.{stepped_none, stepped_more, stepped-all}
use Rattle.obj.proofs.Steps.{source_is}
use Rattle.explain_obj.proofs.column_entry.Goals as goal

pub loop-obj-init : goal.loop-obj-init
loop-obj-init c = stepped_none _ _ _ _

pub loop-obj-preserved : goal.loop-obj-preserved
loop-obj-preserved c = stepped_more _ _ _ _ c.loop-obj.invariant c.loop-obj-test.true c.sprite_step-entry.ensures

pub returns : goal.returns
returns c =
    let view = c.new-view.ensures in
    rw (sym view.reading_is, sym view.line_is)
    (stepped-all _ _ _ c.loop-obj.invariant c.loop-obj-test.false
    (source_is _ (ap (λ (m : Memory). m.registers) c.memory.view_is) view))

-- obj::render_objs meets its contract: each turn is one sprite's step at every column.
-- Assumes nothing.
use Rattle.obj_sprites.specs.Code.{source_of}
use Rattle.obj.proofs.Steps.{SpritesUpTo}
use Rattle.obj.proofs.render_objs.Given as goal

abbrev pub invariant-loop-obj : goal.invariant-loop-obj
invariant-loop-obj l = SpritesUpTo l.view.reading (source_of l.memory l.view) l.view.line l.initial.entries l.obj l.entries

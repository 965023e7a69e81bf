-- explain_layers::place_object meets its contract: its tests are those of placed.
-- Assumes nothing.
use borrow.Author.Tests.{le-leb, lt-leb}
use Rattle.sfx_layers.specs.Layers.{placed}
use Rattle.explain_layers.proofs.place_object.Goals as goal

pub returns-then-object-top : goal.returns-then-object-top
unfolding placed
returns-then-object-top c = rw (le-leb _ _ c.if-object-top.true)

pub returns-then-object-bottom : goal.returns-then-object-bottom
unfolding placed
returns-then-object-bottom c = rw (lt-leb _ _ c.if-object-top.false, le-leb _ _ c.if-object-bottom.true)

pub returns : goal.returns
unfolding placed
returns c = rw (lt-leb _ _ c.if-object-top.false, lt-leb _ _ c.if-object-bottom.false)

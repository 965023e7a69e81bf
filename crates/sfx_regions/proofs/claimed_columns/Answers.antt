-- sfx_regions::claimed_columns meets its contract: a window's columns lie between its edges, where its rows hold the line.
-- Assumes nothing.
use Rattle.sfx_regions.proofs.Spans.{claimed_some, claimed_none}
use mathlib.Core.Path.{refl}
use Rattle.sfx_regions.proofs.claimed_columns.Goals as goal

pub returns-then-on-contains_y : goal.returns-then-on-contains_y
returns-then-on-contains_y c =
    claimed_some c.args.on _ _
    c.left-left.ensures c.right-right.ensures c.contains_y.ensures refl refl c.if-on-contains_y.true

pub returns : goal.returns
returns c =
    claimed_none c.args.on _ _
    c.left-left.ensures c.right-right.ensures c.contains_y.ensures refl c.if-on-contains_y.false

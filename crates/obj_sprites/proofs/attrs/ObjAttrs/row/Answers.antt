-- obj_sprites::attrs::ObjAttrs::row meets its contract: a line in the box lies at its top or below.
-- Assumes nothing.
use Prim.Native.Nat.{◌+◌, ◌≤◌, ◌<◌}
use native.Mathlib.Omega.{arith}
use borrow.Author.Rules.{rules}
use Rattle.obj_sprites.specs.Place.{box_height}
use Rattle.obj_sprites.proofs.Places.{on_line_bounds, below_above}
use Rattle.obj_sprites.proofs.attrs.ObjAttrs.row.Goals as goal

bounds : (c : goal.After-top)
    → let at = c.args in
    (c.top.result ≤ at.line + 96) × (at.line + 96 < c.top.result + box_height at.self)
bounds c = on_line_bounds _ _ _ c.top.ensures.0 _ c.requires.1

pub overflow_sub-result : goal.overflow_sub-result
overflow_sub-result c = omega (arith, bounds c)

pub returns : goal.returns
returns c = search (rules, below_above, bounds c)

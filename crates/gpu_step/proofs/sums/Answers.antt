-- gpu_step::sums meets its contract: numbers in range are found in range and summed one by one.
-- Assumes nothing.
use borrow.Author.Rules.{rules}
use Rattle.bg_points.proofs.Ranges.{ranges_true}
use Rattle.gpu_step.proofs.Added.{x2_found, y2_found, x3_found, y3_found, added, sums_are}
use Rattle.gpu_step.proofs.sums.Goals as goal

pub sum-x2-requires : goal.sum-x2-requires
sum-x2-requires c = search (rules, x2_found)

pub sum-y2-requires : goal.sum-y2-requires
sum-y2-requires c = search (rules, y2_found)

pub sum-x3-requires : goal.sum-x3-requires
sum-x3-requires c = search (rules, x3_found)

pub sum-y3-requires : goal.sum-y3-requires
sum-y3-requires c = search (rules, y3_found)

pub returns : goal.returns
returns c =
    let by = c.struct_told-2-1.given in
    let all = ranges_true _ c.requires in
    sums_are _ _
    (added _ _ all.x2_in by.0.1 c.sum-x2.ensures)
    (added _ _ all.y2_in by.1.0.1 c.sum-y2.ensures)
    (added _ _ all.x3_in by.1.1.0.1 c.sum-x3.ensures)
    (added _ _ all.y3_in by.1.1.1.0.1 c.sum-y3.ensures)

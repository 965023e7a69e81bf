-- sfx_marks::paint_eight meets its contract: a turn gives one column by the lowest mark, and halving brings the next mark there.
-- Assumes nothing.
use Prim.Native.Nat.{◌+◌}
use native.Mathlib.Omega.{arith}
use mathlib.Core.Path.{◌≡◌}
use borrow.Author.Rules.{rules}
use lib.ListN.{get_or}
use Rattle.rows.proofs.Made.{made_tab}
use Rattle.rows.proofs.Tab.{get_or-of-tab}
use Rattle.sfx_marks.proofs.Paints.{length-given, given_one, painted_none, painted_more, painted-all}
use Rattle.sfx_marks.proofs.paint_eight.Goals as goal

pub loop-j-init : goal.loop-j-init
loop-j-init c =
    let none : c.args.i + 0 ≡ c.args.i = omega arith in
    rw none (painted_none _ _ _ _ (search rules) (omega arith))

pub loop-j-preserved : goal.loop-j-preserved
loop-j-preserved c =
    let painted = c.loop-j.invariant in
    let j = c.loop-j.j in
    let next : c.args.i + (j + 1) ≡ c.args.i + j + 1 = omega arith in
    rw next
    (painted_more _ _ _ _ _ 1 painted (omega arith)
    (given_one _ _ _ _ (length-given _ _ _ painted.given) (omega (arith, c.requires))
    (get_or-of-tab (λ k. get_or c.args.other.now (c.args.i + k) 0) 8 j 0
    (made_tab _ _ _ _ _ 0 (λ i y q i< k. search rules) c.from_fn-words.ensures.items) c.loop-j-test.true)
    c.choose.ensures))

pub returns : goal.returns
returns c = painted-all _ _ _ _ _ c.loop-j.invariant (omega arith)

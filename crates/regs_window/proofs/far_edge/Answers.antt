-- regs_window::far_edge meets its contract: its two tests are those of far_edge.
-- Assumes nothing.
use native.Mathlib.Omega.{arith}
use borrow.Author.Rules.{rules}
use borrow.Author.Tests.{lt-ltb, le-ltb}
use Rattle.regs_window.specs.Windows.{far_edge}
use Rattle.regs_window.proofs.far_edge.Goals as goal

pub returns-then-far-screen : goal.returns-then-far-screen
unfolding far_edge
returns-then-far-screen c = let a = c.args in simp (lt-ltb a.screen a.far (omega arith)) (search rules)

pub returns-then-far-near : goal.returns-then-far-near
unfolding far_edge
returns-then-far-near c =
    let a = c.args in
    simp (le-ltb a.screen a.far (omega arith), lt-ltb a.far a.near (omega arith)) (search rules)

pub returns-else-far-near : goal.returns-else-far-near
unfolding far_edge
returns-else-far-near c =
    let a = c.args in
    simp (le-ltb a.screen a.far (omega arith), le-ltb a.far a.near (omega arith)) (search rules)

-- sfx_marks::Marks::count meets its contract: the ones of the four words are the marks of 240 columns, for the fourth has 48.
-- Assumes nothing.
use native.Mathlib.Omega.{arith}
use borrow.Author.Rules.{rules}
use Rattle.sfx_marks.proofs.Marked.{count_marks_ones}
use Rattle.sfx_marks.proofs.Marks.count.Goals as goal

pub returns : goal.returns
returns c =
    omega (arith, count_marks_ones c.args.self.words (λ i. search rules) c.args.self.clean)

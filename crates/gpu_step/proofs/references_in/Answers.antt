-- gpu_step::references_in meets its contract: the numbers are read one by one.
-- Assumes nothing.
use lib.IntN.{pos}
use borrow.Author.Rules.{rules}
use Rattle.rows.proofs.Made.{made_tab}
use Rattle.gpu_step.proofs.Answers.{references_made}
use Rattle.gpu_step.proofs.references_in.Goals as goal

pub returns : goal.returns
returns c =
    references_made _ c.fits-references
    (made_tab _ _ _ _ _ (pos 0) (λ i y q i<. search rules) c.from_fn.ensures.items)

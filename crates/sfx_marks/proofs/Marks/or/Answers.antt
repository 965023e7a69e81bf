-- sfx_marks::Marks::or meets its contract: a bit is set in the or of two words exactly if it is set in one of them.
-- Assumes nothing.
use borrow.Author.Rules.{rules}
use Rattle.rows.proofs.Made.{made_tab}
use Rattle.sfx_marks.proofs.Marked.{clean_of_either, marks_of_either}
use Rattle.sfx_marks.proofs.Marks.or.Goals as goal

pub invariant_of-result : goal.invariant_of-result
invariant_of-result c = record {
  clean =
      clean_of_either c.args.self.words c.args.others.words c.args.self.clean c.args.others.clean
      (made_tab _ _ _ _ _ 0 (λ i y q i< k. search rules) c.from_fn.ensures.items);
}

pub returns : goal.returns
returns c =
    marks_of_either _ _ c.args.self.clean
    (made_tab _ _ _ _ _ 0 (λ i y q i< k. search rules) c.from_fn.ensures.items)

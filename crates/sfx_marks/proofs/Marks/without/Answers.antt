-- sfx_marks::Marks::without meets its contract: a bit of the complement of a word is set exactly if the word's isn't.
-- Assumes nothing.
use borrow.Author.Rules.{rules}
use Rattle.rows.proofs.Made.{made_tab}
use Rattle.sfx_marks.proofs.Marked.{clean_of_free, marks_of_free}
use Rattle.sfx_marks.proofs.Marks.without.Goals as goal

pub invariant_of-result : goal.invariant_of-result
invariant_of-result c = record {
  clean =
      clean_of_free c.args.self.words c.args.others c.args.self.clean
      (made_tab _ _ _ _ _ 0 (λ i y q i< k. search rules) c.from_fn.ensures.items);
}

pub returns : goal.returns
returns c =
    marks_of_free _ _ c.args.self.clean (λ i. search rules)
    (made_tab _ _ _ _ _ 0 (λ i y q i< k. search rules) c.from_fn.ensures.items)

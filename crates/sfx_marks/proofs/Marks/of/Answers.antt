-- sfx_marks::Marks::of meets its contract: each word has the marks of its 64 columns.
-- Assumes nothing.
use borrow.Author.Rules.{rules}
use Rattle.rows.proofs.Made.{made_tab}
use Rattle.sfx_marks.proofs.Marked.{clean_of_columns, marks_of_columns}
use Rattle.sfx_marks.proofs.Marks.of.Goals as goal

pub invariant_of-result : goal.invariant_of-result
invariant_of-result c = record {
  clean = clean_of_columns c.args.columns (made_tab _ _ _ _ _ 0 (λ i y q i< k. search rules) c.from_fn.ensures.items);
}

pub returns : goal.returns
returns c = marks_of_columns c.args.columns (made_tab _ _ _ _ _ 0 (λ i y q i< k. search rules) c.from_fn.ensures.items)

-- explain::find_reason meets its contract: each test is one of found's.
-- Assumes nothing.
use mathlib.Core.Path.{sym, ap, ◌∙◌}
use borrow.Author.Rules.{rules}
use Rattle.std.proofs.lemmas.Result.{err_from_is_err_and}
use Rattle.std.specs.declared.result.Result.TheVariants.{Ok}
use Rattle.gpu_judge.proofs.Lengths.{missing}
use Rattle.gpu_judge.specs.declared.Picture.{Picture}
use Rattle.gpu_judge.proofs.Verdicts.{judged_tells}
use Rattle.explain.proofs.Numbers.{found_unasked, found_short, found_refused, found_outside, found_reason}
use Rattle.explain.proofs.find_reason.Goals as goal

pub returns-in_err-request : goal.returns-in_err-request
returns-in_err-request c =
    let p = err_from_is_err_and c.from_residual.result c.from_residual.ensures.1 in
    rw (p.1, p.2) (sym (found_unasked _ _ _ (sym c.new.ensures ∙ c.in_err-request.was)))

pub returns-in_err-entries : goal.returns-in_err-entries
returns-in_err-entries c =
    let p = err_from_is_err_and c.from_residual-in_err-entries.result c.from_residual-in_err-entries.ensures.1 in
    let m = missing c.as_array.ensures.variant.1 c.in_err-entries.ensures.ok_part c.in_err-entries.ensures.value in
    rw (p.1, p.2, m.1) (sym (found_short _ _ _ (sym c.new.ensures ∙ c.in_ok-request.was) m.0))

pub returns-in_err-picture : goal.returns-in_err-picture
returns-in_err-picture c =
    let p = err_from_is_err_and c.from_residual-in_err-picture.result c.from_residual-in_err-picture.ensures.1 in
    rw (p.1, p.2)
    (sym
    (found_refused _ c.args.entries.now _ (sym c.new.ensures ∙ c.in_ok-request.was) (search rules) (search rules)
    (sym c.judge.ensures ∙ c.in_err-picture.was)))

pub returns-then-column-ge-COLUMNS : goal.returns-then-column-ge-COLUMNS
returns-then-column-ge-COLUMNS c =
    sym
    (found_outside _ c.args.entries.now _ (sym c.new.ensures ∙ c.in_ok-request.was) (search rules) (search rules)
    (sym c.judge.ensures ∙ c.in_ok-picture.was) c.if-column-ge-COLUMNS.true)

pub explain_column-requires : goal.explain_column-requires
explain_column-requires c = (
  judged_tells _ _ (sym c.judge.ensures ∙ c.in_ok-picture.was ∙ ap (λ (p : Picture). Ok p) c.in-Drawn.is),
  c.if-column-ge-COLUMNS.false,
)

pub returns-in-Blank : goal.returns-in-Blank
returns-in-Blank c =
    sym
    (found_reason _ c.args.entries.now _ (sym c.new.ensures ∙ c.in_ok-request.was) (search rules) (search rules)
    (sym c.judge.ensures ∙ c.in_ok-picture.was ∙ ap (λ (p : Picture). Ok p) c.in-Blank.is)
    c.if-column-ge-COLUMNS.false c.blank.ensures)

pub returns-in-Drawn : goal.returns-in-Drawn
returns-in-Drawn c =
    sym
    (found_reason _ c.args.entries.now _ (sym c.new.ensures ∙ c.in_ok-request.was) (search rules) (search rules)
    (sym c.judge.ensures ∙ c.in_ok-picture.was ∙ ap (λ (p : Picture). Ok p) c.in-Drawn.is)
    c.if-column-ge-COLUMNS.false c.explain_column.ensures)

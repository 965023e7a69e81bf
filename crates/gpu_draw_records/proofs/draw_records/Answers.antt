-- gpu_draw_records::draw_records meets its contract: what is asked for is drawn on the row's bytes.
-- Assumes nothing.
use mathlib.Core.Path.{sym, ap, ◌∙◌}
use borrow.Author.Rules.{rules}
use Rattle.std.proofs.lemmas.Result.{err_from_is_err_and}
use Rattle.std.specs.declared.result.Result.TheVariants.{Ok}
use Rattle.refusals.specs.Refusal.{outcome_number, refusal_number}
use Rattle.gpu_judge.proofs.Lengths.{missing}
use Rattle.gpu_judge.specs.declared.Picture.{Picture}
use Rattle.gpu_draw_records.proofs.Draws.{records_unasked, records_short, records_cut, records_refused, records_kept, records_written}
use Rattle.gpu_draw_records.proofs.draw_records.Goals as goal

pub returns-in_err-request : goal.returns-in_err-request
unfolding outcome_number
returns-in_err-request c =
    let p = err_from_is_err_and c.from_residual.result c.from_residual.ensures.1 in
    rw (p.1, p.2) (records_unasked _ _ _ (sym c.new.ensures ∙ c.in_err-request.was))

pub returns-in_err-row : goal.returns-in_err-row
unfolding outcome_number refusal_number
returns-in_err-row c =
    let p = err_from_is_err_and c.from_residual-in_err-row.result c.from_residual-in_err-row.ensures.1 in
    let m = missing c.as_mut_array.ensures.variant.1 c.in_err-row.ensures.ok_part c.in_err-row.ensures.value in
    rw (p.1, p.2, m.1) (records_short _ _ _ (sym c.new.ensures ∙ c.in_ok-request.was) m.0)

pub returns-in_err-output : goal.returns-in_err-output
unfolding outcome_number refusal_number
returns-in_err-output c =
    let p = err_from_is_err_and c.from_residual-in_err-output.result c.from_residual-in_err-output.ensures.1 in
    let m = missing c.as_mut_array-2.ensures.variant.1 c.in_err-output.ensures.ok_part c.in_err-output.ensures.value in
    rw (p.1, p.2, m.1)
    (records_cut _ c.args.entries.now c.args.output.now (sym c.new.ensures ∙ c.in_ok-request.was) (search rules) (search rules) m.0)

pub returns-in_err-draw_request : goal.returns-in_err-draw_request
unfolding outcome_number
returns-in_err-draw_request c =
    let p = err_from_is_err_and c.from_residual-in_err-draw_request.result c.from_residual-in_err-draw_request.ensures.1 in
    rw (p.1, p.2)
    (records_refused _ c.args.entries.now c.args.output.now (sym c.new.ensures ∙ c.in_ok-request.was)
    (search rules) (search rules) (search rules) (search rules) c.encode_row-bytes.ensures
    c.draw_request.ensures.judged c.draw_request.ensures.given c.in_err-draw_request.was)

pub returns-in-Blank : goal.returns-in-Blank
unfolding outcome_number
returns-in-Blank c =
    records_kept _ c.args.entries.now c.args.output.now (sym c.new.ensures ∙ c.in_ok-request.was)
    (search rules) (search rules) (search rules) (search rules) c.encode_row-bytes.ensures
    c.draw_request.ensures.judged c.draw_request.ensures.given
    (c.in_ok-draw_request.was ∙ ap (λ (p : Picture). Ok p) c.in-Blank.is)

pub returns-in-Drawn : goal.returns-in-Drawn
unfolding outcome_number
returns-in-Drawn c =
    records_written _ c.args.entries.now c.args.output.now (sym c.new.ensures ∙ c.in_ok-request.was)
    (search rules) (search rules) (search rules) (search rules) c.encode_row-bytes.ensures
    c.draw_request.ensures.judged c.draw_request.ensures.given
    (c.in_ok-draw_request.was ∙ ap (λ (p : Picture). Ok p) c.in-Drawn.is) c.decode_row.ensures

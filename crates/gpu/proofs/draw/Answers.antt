-- gpu::draw meets its contract: what is asked for is drawn on arrays.
-- Assumes nothing.
use mathlib.Core.Path.{sym, ◌∙◌}
use borrow.Author.Rules.{rules}
use Rattle.std.proofs.lemmas.Result.{err_from_is_err_and}
use Rattle.refusals.specs.Refusal.{outcome_number, refusal_number}
use Rattle.gpu_judge.proofs.Lengths.{missing}
use Rattle.gpu.proofs.Given.{draws_unasked, draws_short, draws_cut, draws_judged}
use Rattle.gpu.proofs.draw.Goals as goal

pub returns-in_err-request : goal.returns-in_err-request
unfolding outcome_number
returns-in_err-request c =
    let p = err_from_is_err_and c.from_residual.result c.from_residual.ensures.1 in
    rw (p.1, p.2) (draws_unasked _ _ _ (sym c.new.ensures ∙ c.in_err-request.was))

pub returns-in_err-entries : goal.returns-in_err-entries
unfolding outcome_number refusal_number
returns-in_err-entries c =
    let p = err_from_is_err_and c.from_residual-in_err-entries.result c.from_residual-in_err-entries.ensures.1 in
    let m = missing c.as_mut_array.ensures.variant.1 c.in_err-entries.ensures.ok_part c.in_err-entries.ensures.value in
    rw (p.1, p.2, m.1) (draws_short _ _ _ (sym c.new.ensures ∙ c.in_ok-request.was) m.0)

pub returns-in_err-output : goal.returns-in_err-output
unfolding outcome_number refusal_number
returns-in_err-output c =
    let p = err_from_is_err_and c.from_residual-in_err-output.result c.from_residual-in_err-output.ensures.1 in
    let m = missing c.as_mut_array-2.ensures.variant.1 c.in_err-output.ensures.ok_part c.in_err-output.ensures.value in
    rw (p.1, p.2, m.1)
    (draws_cut _ _ _ (sym c.new.ensures ∙ c.in_ok-request.was) (search rules) (search rules) m.0)

pub returns-in_err-draw_request : goal.returns-in_err-draw_request
unfolding outcome_number
returns-in_err-draw_request c =
    let p = err_from_is_err_and c.from_residual-in_err-draw_request.result c.from_residual-in_err-draw_request.ensures.1 in
    let drew =
    draws_judged _ c.args.entries.now c.args.output.now (sym c.new.ensures ∙ c.in_ok-request.was) (search rules) (search rules) (search rules) (search rules)
    c.draw_request.ensures.judged c.draw_request.ensures.given
    in
    rw (p.1, p.2) (rw c.in_err-draw_request.was at drew)

pub returns : goal.returns
unfolding outcome_number
returns c =
    let drew =
    draws_judged _ c.args.entries.now c.args.output.now (sym c.new.ensures ∙ c.in_ok-request.was) (search rules) (search rules) (search rules) (search rules)
    c.draw_request.ensures.judged c.draw_request.ensures.given
    in
    rw c.in_ok-draw_request.was at drew

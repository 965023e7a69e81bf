-- gpu_step::step meets its contract: each answer of the step on numbers is written as its bytes.
-- Assumes nothing.
use mathlib.Core.Path.{◌≡◌, ap, ◌∙◌}
use native.Mathlib.Omega.{arith}
use borrow.Author.Rules.{rules}
use Rattle.std.proofs.lemmas.Grind.{common_steps}
use Rattle.std.proofs.lemmas.Result.{err_from_is_err_and}
use Rattle.refusals.specs.Refusal.{outcome_number, refusal_number}
use Rattle.gpu_step.specs.Step.{references_in}
use Rattle.gpu_step.proofs.Answers.{step-length, step-refused, step_done}
use Rattle.gpu_step.proofs.Missing.{missing_array}
use Rattle.gpu_step.proofs.step.Goals as goal

pub returns-in_err-references : goal.returns-in_err-references
unfolding outcome_number refusal_number
returns-in_err-references c =
    let p = err_from_is_err_and c.from_residual.result c.from_residual.ensures.1 in
    let m = missing_array c.as_mut_array.ensures.variant.1 c.in_err-references.ensures.ok_part c.in_err-references.ensures.value in
    rw (p.1, p.2, m.1) (step-length _ _ m.0)

pub returns-in_err-to : goal.returns-in_err-to
unfolding outcome_number refusal_number
returns-in_err-to c = grind (arith, common_steps, step-refused)

pub returns : goal.returns
unfolding outcome_number
returns c =
    let same : c.in_ok-references.field-0.now ≡ c.args.references.now = search rules in
    step_done _ _ (search rules) (c.references_in.ensures ∙ ap references_in same)
    c.step_references.ensures c.in_ok-to.ensures.ok_part c.put_references.ensures

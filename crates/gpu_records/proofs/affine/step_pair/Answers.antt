-- gpu_records::affine::step_pair meets its contract: the step on numbers is asked about the four of the records.
-- Assumes nothing.
use native.Mathlib.Omega.{arith}
use Rattle.std.proofs.lemmas.Grind.{common_steps}
use Rattle.refusals.specs.Refusal.{outcome_number, refusal_number}
use Rattle.gpu_records.proofs.Steps.{steps-refused, steps_done}
use Rattle.gpu_records.proofs.affine.step_pair.Goals as goal

pub returns-in_err-to : goal.returns-in_err-to
unfolding outcome_number refusal_number
returns-in_err-to c = grind (arith, common_steps, steps-refused)

pub returns : goal.returns
unfolding outcome_number
returns c =
    steps_done _ _ c.steps_of.ensures c.references_of.ensures c.step_references.ensures _
    c.in_ok-to.ensures.ok_part c.moved_to.ensures c.moved_to-2.ensures

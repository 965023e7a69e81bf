-- ashlarkin::ashlarkin_step meets its contract, which is the step's.
-- Assumes nothing.
use mathlib.Core.Path.{ap, ◌∙◌}
use Rattle.gpu_step.specs.Step.{step}
use Rattle.gpu_step.proofs.Machine.{steps-read}
use Rattle.ashlarkin.proofs.ashlarkin_step.Goals as goal

pub returns : goal.returns
returns c =
    let fits = c.ranges in
    rw c.number.ensures
    (c.step.ensures
    ∙ ap (λ s. step s c.args.references.now)
    (steps-read _ fits.pb2.sfits fits.pd2.sfits fits.pb3.sfits fits.pd3.sfits))

-- ashlarkin::ashlarkin_explain meets its contract, which is the explanation's.
-- Assumes nothing.
use Rattle.gpu_step.proofs.Machine.{references-read}
use Rattle.explain.proofs.Numbers.{explains_same}
use Rattle.ashlarkin.proofs.ashlarkin_explain.Goals as goal

pub returns : goal.returns
returns c =
    let fits = c.ranges in
    explains_same _ _ _ _ _ _ _ _ (references-read _ fits.x2.sfits fits.y2.sfits fits.x3.sfits fits.y3.sfits)
    c.explain.ensures

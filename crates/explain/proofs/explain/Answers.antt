-- explain::explain meets its contract: what is found is answered.
-- Assumes nothing.
use Rattle.explain.proofs.Numbers.{explains_reason, explains_refused}
use Rattle.explain.proofs.explain.Goals as goal

pub returns-in-Ok : goal.returns-in-Ok
returns-in-Ok c = explains_reason _ _ _ c.find_reason.ensures c.in-Ok.is

pub returns-in-Err : goal.returns-in-Err
returns-in-Err c = explains_refused _ _ _ c.find_reason.ensures c.in-Err.is c.refused.ensures

-- gpu_judge::Request::new meets its contract: the reading is tested, and then the memory.
-- Assumes nothing.
use mathlib.Core.Path.{sym, ◌∙◌}
use Rattle.std.proofs.lemmas.Result.{err_from_is_err_and}
use Rattle.gpu_judge.proofs.Lengths.{request_reading, request_memory, request_both}
use Rattle.gpu_judge.proofs.Request.new.Goals as goal

pub returns-in_err-reading : goal.returns-in_err-reading
returns-in_err-reading c =
    let p = err_from_is_err_and c.from_residual.result c.from_residual.ensures.1 in
    rw (p.1, p.2) (sym (request_reading _ (sym c.try_from.ensures ∙ c.in_err-reading.was)))

pub returns-in_err-memory : goal.returns-in_err-memory
returns-in_err-memory c =
    let p = err_from_is_err_and c.from_residual-in_err-memory.result c.from_residual-in_err-memory.ensures.1 in
    rw (p.1, p.2)
    (sym (request_memory _ (sym c.try_from.ensures ∙ c.in_ok-reading.was) (sym c.lent_memory.ensures ∙ c.in_err-memory.was)))

pub returns : goal.returns
returns c = sym (request_both _ (sym c.try_from.ensures ∙ c.in_ok-reading.was) (sym c.lent_memory.ensures ∙ c.in_ok-memory.was))

-- gpu::draw_request meets its contract: each arm gives what its verdict gives.
-- Assumes nothing.
use mathlib.Core.Path.{sym, ap, ◌∙◌}
use Rattle.std.proofs.lemmas.Result.{err_from_is_err_and}
use Rattle.std.specs.declared.result.Result.TheVariants.{Ok}
use Rattle.gpu_judge.proofs.Verdicts.{judged_tells}
use Rattle.gpu_judge.specs.declared.Picture.{Picture}
use Rattle.gpu.proofs.Given.{gives_refused, gives-blank, gives_drawn}
use Rattle.gpu.proofs.draw_request.Goals as goal

pub returns-in_err-picture-clause-given : goal.returns-in_err-picture-clause-given
returns-in_err-picture-clause-given c =
    let p = err_from_is_err_and c.from_residual.result c.from_residual.ensures.1 in
    rw (p.1, p.2) (gives_refused _ _ _ c.in_err-picture.field-0.0)

pub update_objs-requires : goal.update_objs-requires
update_objs-requires c =
    (judged_tells c.args.request.now c.args.entries.now (sym c.judge.ensures ∙ c.in_ok-picture.was ∙ ap (λ (p : Picture). Ok p) c.in-Drawn.is)).line<

pub render_line-requires : goal.render_line-requires
render_line-requires c =
    judged_tells c.args.request.now c.args.entries.now
    (sym c.judge.ensures ∙ c.in_ok-picture.was ∙ ap (λ (p : Picture). Ok p) c.in-Drawn.is)

pub returns-in-Blank-clause-given : goal.returns-in-Blank-clause-given
returns-in-Blank-clause-given c = rw c.in-Blank.is (gives-blank _ _ _ c.blank_line.ensures)

pub returns-in-Drawn-clause-given : goal.returns-in-Drawn-clause-given
returns-in-Drawn-clause-given c = rw c.in-Drawn.is (gives_drawn _ _ _ c.update_objs.ensures c.render_line.ensures)

-- gpu::render_line meets its contract: its lines are those of the backgrounds, which are composed to the line.
-- Assumes nothing.
use mathlib.Core.Path.{ap}
use mathlib.Core.List.{[]}
use borrow.Author.Rules.{rules}
use Rattle.rows.proofs.Made.{made_tab}
use Rattle.memory.specs.Memory.{Memory}
use Rattle.gpu.proofs.Lines.{read_of, line_composed}
use Rattle.gpu.proofs.render_line.Goals as goal

pub returns : goal.returns
returns c =
    line_composed c.args.request.now (read_of c.memory.view_is c.read_dispcnt.ensures).bg_is
    (made_tab _ _ _ _ _ [] (λ i y q i<. search rules) c.from_fn-lines.ensures.items)
    c.args.entries.now
    (rw (ap (λ (m : Memory). m.registers) c.memory.view_is, ap (λ (m : Memory). m.palette) c.memory.view_is)
    at c.finalize_scanline.ensures)

-- gpu_judge::lent_memory meets its contract: each conversion tests one length.
-- Assumes nothing.
use native.Mathlib.Omega.{arith}
use Rattle.std.proofs.lemmas.Grind.{common_steps}
use Rattle.gpu_judge.proofs.Lengths.{lent_vram, lent_palette, lent_oam, lent_registers, lent_all}
use Rattle.gpu_judge.proofs.lent_memory.Goals as goal

pub returns-in_err-vram : goal.returns-in_err-vram
returns-in_err-vram c = grind (arith, common_steps, lent_vram)

pub returns-in_err-palette : goal.returns-in_err-palette
returns-in_err-palette c = grind (arith, common_steps, lent_palette)

pub returns-in_err-oam : goal.returns-in_err-oam
returns-in_err-oam c = grind (arith, common_steps, lent_oam)

pub returns-in_err-registers : goal.returns-in_err-registers
returns-in_err-registers c = grind (arith, common_steps, lent_registers)

pub returns : goal.returns
returns c = grind (arith, common_steps, lent_all)

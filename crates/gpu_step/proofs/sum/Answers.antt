-- gpu_step::sum meets its contract: the sum has 32 bits.
-- Assumes nothing.
use mathlib.Core.Path.{◌≡◌, ap₂, ◌∙◌}
use lib.IntN.{◌+ℤ◌}
use mir.Syntax.{w32}
use mir.Val.{SFits, to_z, of_z}
use mir.Facts.{to_z-of_z}
use Rattle.gpu_step.proofs.Machine.{word_read, half-read}
use Rattle.gpu_step.proofs.Added.{mag_sum}
use Rattle.gpu_step.proofs.sum.Goals as goal

-- The sum, as the machine has it.
added : (c : goal.After-from)
    → to_z w32 (of_z w32 c.args.reference) +ℤ to_z w32 (of_z w32 c.from.result) ≡ c.args.reference +ℤ c.args.by
added c =
    ap₂ ◌+ℤ◌ (to_z-of_z c.ranges.reference)
    (word_read _ c.from.type_inv ∙ c.from.ensures ∙ half-read _ c.ranges.by.sfits)

fits : (c : goal.After-from) → SFits w32 (to_z w32 (of_z w32 c.args.reference) +ℤ to_z w32 (of_z w32 c.from.result))
fits c = rw (added c) (record { sfits = mag_sum c.args.reference c.args.by c.requires c.ranges.by.sfits })

pub overflow_add-result : goal.overflow_add-result
overflow_add-result c = fits c

pub returns : goal.returns
returns c = to_z-of_z (fits c) ∙ added c

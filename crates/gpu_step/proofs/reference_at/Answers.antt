-- gpu_step::reference_at meets its contract: the word is read as signed.
-- Assumes nothing.
use mathlib.Core.Path.{ap, ◌∙◌}
use Rattle.signed.specs.Signed.{signed32}
use Rattle.gpu_step.proofs.Added.{word_cast}
use Rattle.gpu_step.proofs.Machine.{word_read}
use Rattle.gpu_step.proofs.reference_at.Goals as goal

pub returns : goal.returns
returns c = word_read _ c.cast_signed.type_inv ∙ c.cast_signed.ensures ∙ word_cast _ c.word_at.type_inv ∙ ap signed32 c.word_at.ensures

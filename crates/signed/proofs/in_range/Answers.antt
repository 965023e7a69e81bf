-- signed::in_range meets its contract: the range's two tests are in_range's own, of the number that the bits of z stand for.
-- Assumes nothing.
use mathlib.Core.Path.{◌∙◌, ap}
use mir.Facts.{to_z-of_z}
use Rattle.signed.specs.Signed.{in_range}
use Rattle.signed.proofs.Range.{in_range-tests}
use Rattle.signed.proofs.in_range.Goals as goal

pub returns : goal.returns
returns c = c.contains.ensures.value ∙ in_range-tests _ ∙ ap in_range (to_z-of_z c.ranges.z)

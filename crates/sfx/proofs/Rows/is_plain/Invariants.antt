-- sfx::Rows::is_plain meets its contract: a turn asks one tag more.
-- Assumes nothing.
use mathlib.Core.Path.{◌≡◌}
use lib.Dec.{eqb}
use lib.ListN.{get_or}
use Rattle.bits.specs.Bits.{bits}
use Rattle.rows.specs.Below.{all_below}
use Rattle.sfx_layers.specs.Code.{semi_bit}
use Rattle.sfx.proofs.Rows.is_plain.Given as goal

abbrev pub invariant-loop-column : goal.invariant-loop-column
invariant-loop-column l = l.plain ≡ all_below (λ k. eqb (bits semi_bit semi_bit (get_or l.self.tags.now k 0)) 0) l.column

-- gpu_bus::write_16 meets its contract: a law for each return.
-- Assumes nothing.
use borrow.Author.Rules.{rules}
use Rattle.refusals.specs.Refusal.{refusal_number, outcome_number}
use Rattle.gpu_bus.proofs.Answers.{halves}
use Rattle.gpu_bus.proofs.write_16.Goals as goal

pub returns-then-not-have_lengths : goal.returns-then-not-have_lengths
unfolding outcome_number refusal_number
returns-then-not-have_lengths c = search (rules, halves)

pub returns-then-addr-eq1 : goal.returns-then-addr-eq1
unfolding outcome_number refusal_number
returns-then-addr-eq1 c = search (rules, halves)

pub returns-in-Palram : goal.returns-in-Palram
unfolding outcome_number refusal_number
returns-in-Palram c = search (rules, halves)

pub returns-else-addr-eq1 : goal.returns-else-addr-eq1
unfolding outcome_number refusal_number
returns-else-addr-eq1 c = search (rules, halves)

pub returns-in-Oam : goal.returns-in-Oam
unfolding outcome_number refusal_number
returns-in-Oam c = search (rules, halves)

pub returns-in-Other : goal.returns-in-Other
unfolding outcome_number refusal_number
returns-in-Other c = search (rules, halves)

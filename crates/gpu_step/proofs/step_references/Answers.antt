-- gpu_step::step_references meets its contract: both tests are those of stepped.
-- Assumes nothing.
use borrow.Author.Rules.{rules}
use Rattle.gpu_step.proofs.Added.{stepped_not, stepped_to, stepped_out}
use Rattle.gpu_step.proofs.step_references.Goals as goal

pub returns-then-not-in_ranges : goal.returns-then-not-in_ranges
returns-then-not-in_ranges c = search (rules, stepped_not)

pub returns-then-in_ranges : goal.returns-then-in_ranges
returns-then-in_ranges c = search (rules, stepped_to)

pub returns-else-in_ranges : goal.returns-else-in_ranges
returns-else-in_ranges c = search (rules, stepped_out)

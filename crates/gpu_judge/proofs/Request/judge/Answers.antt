-- gpu_judge::Request::judge meets its contract: each test is one of judged's, in its order.
-- Assumes nothing.
use mathlib.Core.Path.{sym}
use borrow.Author.Rules.{rules}
use Rattle.gpu_judge.proofs.Verdicts.{gives_line, gives-blank, gives-mode, gives-bldy, gives_reference, gives_entry, gives_drawn}
use Rattle.gpu_judge.proofs.Request.judge.Goals as goal

pub returns-then-self-ge-LINES : goal.returns-then-self-ge-LINES
returns-then-self-ge-LINES c = search (rules, gives_line)

pub returns-then-dispcnt : goal.returns-then-dispcnt
returns-then-dispcnt c = rw (sym c.self.view_is) (search (rules, gives-blank))

pub returns-then-dispcnt-gt5 : goal.returns-then-dispcnt-gt5
returns-then-dispcnt-gt5 c = rw (sym c.self.view_is) (search (rules, gives-mode))

pub returns-then-counted-gt16 : goal.returns-then-counted-gt16
returns-then-counted-gt16 c = rw (sym c.self.view_is) (search (rules, gives-bldy))

pub returns-then-not-in_ranges : goal.returns-then-not-in_ranges
returns-then-not-in_ranges c = rw (sym c.self.view_is) (search (rules, gives_reference))

pub returns-then-not-shaped_row : goal.returns-then-not-shaped_row
returns-then-not-shaped_row c = rw (sym c.self.view_is) (search (rules, gives_entry))

pub returns : goal.returns
returns c = rw (sym c.self.view_is) (search (rules, gives_drawn))

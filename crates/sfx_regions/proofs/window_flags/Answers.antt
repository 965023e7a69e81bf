-- sfx_regions::window_flags meets its contract: each kind's flags are the clause of permitted for it.
-- Assumes nothing.
use Rattle.sfx_regions.specs.Region.{permitted}
use Rattle.sfx_regions.proofs.window_flags.Goals as goal

pub returns-in-Win0 : goal.returns-in-Win0
unfolding permitted
returns-in-Win0 c = rw c.in-Win0.is c.read_win0.ensures.flags_are

pub returns-in-Win1 : goal.returns-in-Win1
unfolding permitted
returns-in-Win1 c = rw c.in-Win1.is c.read_win1.ensures.flags_are

pub returns-in-WinObj : goal.returns-in-WinObj
unfolding permitted
returns-in-WinObj c = rw c.in-WinObj.is c.read_winobj_flags.ensures

pub returns-in-WinOut : goal.returns-in-WinOut
unfolding permitted
returns-in-WinOut c = rw c.in-WinOut.is c.read_winout_flags.ensures

pub returns-in-WinNone : goal.returns-in-WinNone
unfolding permitted
returns-in-WinNone c = rw c.in-WinNone.is c.all.ensures

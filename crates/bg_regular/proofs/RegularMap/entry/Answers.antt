-- bg_regular::RegularMap::entry meets its contract: the address is map_entry's, and no block lies past the third.
-- Assumes nothing.
use borrow.Author.Rules.{rules}
use native.Mathlib.Omega.{arith}
use Rattle.bg_regular.specs.Regular.{map_entry}
use Rattle.bg_regular.proofs.Maps.{block_row_bound}
use Rattle.bg_regular.proofs.RegularMap.entry.Goals as goal

pub returns : goal.returns
unfolding map_entry
returns c = search rules

pub read_16-requires : goal.read_16-requires
read_16-requires c =
    let above = block_row_bound c.args.self.width c.args.y c.requires.0.width_side.side≤ c.requires.2 in omega (arith, above)

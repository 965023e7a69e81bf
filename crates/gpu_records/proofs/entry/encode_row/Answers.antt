-- gpu_records::entry::encode_row meets its contract: a turn puts the entry of a record in its cell.
-- Assumes nothing.
use Prim.Native.Nat.{◌<◌}
use native.Mathlib.Omega.{arith}
use mathlib.Core.Path.{refl, ap, ◌∙◌}
use lib.ListN.{length}
use Rattle.rows.proofs.Passed.{started, turned}
use Rattle.obj_entries.specs.Entry.{entry_cells}
use Rattle.gpu_records.specs.Entries.{entry_of_record, reset_record}
use Rattle.gpu_records.proofs.Rows.{get_or-within, row_bytes_filled}
use Rattle.gpu_records.proofs.entry.encode_row.Goals as goal

pub loop-k-init : goal.loop-k-init
loop-k-init c = started entry_cells refl

pub loop-k-preserved : goal.loop-k-preserved
loop-k-preserved c =
    let within : c.loop-k.k < length c.args.records.now = omega arith in
    turned entry_cells c.loop-k.invariant c.loop-k-test.true c.put_entry.ensures
    (c.from.ensures ∙ ap entry_of_record (get_or-within c.args.records.now _ _ reset_record within))

pub returns : goal.returns
returns c = row_bytes_filled _ (omega arith) c.loop-k.invariant c.loop-k-test.false

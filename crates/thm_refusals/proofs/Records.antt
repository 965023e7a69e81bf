-- What the draw over records gives is what its table gives. No contract cites this file. Assumes nothing.
use Prim.Native.Nat.{ℕ, zero, suc, ◌*◌}
use native.Mathlib.Omega.{arith}
use mathlib.Core.Path.{◌≡◌, refl, sym, ap, ◌∙◌}
use mathlib.Core.Bool.{Bool, true, false, not, and-false}
use mathlib.Core.List.{List}
use mathlib.Core.Logic.{◌≢◌}
use lib.Dec.{eqb}
use lib.ListN.{length}
use borrow.Author.Tests.{eqb-true, eqb-false, eq-eqb, ne_eqb}
use Rattle.rows.proofs.Below.{all_below_cong}
use Rattle.rows.proofs.Cells.{cell_at_row_of}
use Rattle.memory.specs.Memory.{Memory}
use Rattle.obj_entries.specs.Entry.{entry_cells, well_shaped, shaped_row}
use Rattle.regs.specs.Registers.{dispcnt}
use Rattle.regs.specs.Display.{force_blank}
use Rattle.gpu_judge.specs.Judge.{Call, have_lengths}
use Rattle.gpu_judge.proofs.Verdicts.{lengths_are}
use Rattle.gpu.specs.Line.{blank_line}
use Rattle.gpu.specs.Draw.{draw}
use Rattle.gpu_records.specs.Entries.{row_bytes}
use Rattle.gpu_records.specs.declared.entry.ObjBufferEntry.{ObjBufferEntry}
use Rattle.gpu_records.proofs.Rows.{entry_at, length-row_bytes, row_bytes_is}
use Rattle.gpu_draw_records.specs.Draw.{writes, draw_records}
use Rattle.thm_refusals.specs.Table.{NoneOf}
use Rattle.thm_refusals.specs.Demand1.{draw_table, bytes_table, record_lengths, shaped_records, records_table}
use Rattle.thm_refusals.proofs.Tables.{first_of}
use Rattle.thm_refusals.proofs.Draws.{number-draw, draw-refused, draw-blank}

-- Four bytes each.
eqb-bytes : (n : ℕ) → eqb (4 * n) 960 ≡ eqb n 240
eqb-bytes n = go (eqb n 240) refl
  where
    go : (t : Bool) → eqb n 240 ≡ t → eqb (4 * n) 960 ≡ t
    go true e = let whole = eqb-true n 240 e in eq-eqb (4 * n) 960 (omega arith)
    go false e = ne_eqb (4 * n) 960 (λ h. eqb-false n 240 e (omega arith))

-- A row's bytes have their length exactly if the row has.
pub lengths_records : (m : Memory) (records : List ObjBufferEntry) (output : List ℕ)
    → have_lengths m (row_bytes records) output ≡ record_lengths m records output
unfolding have_lengths record_lengths
lengths_records m records output = rw (length-row_bytes records, eqb-bytes (length records))

-- A row of 240 is well shaped exactly if its bytes are.
shaped-records : (records : List ObjBufferEntry) → length records ≡ 240 → shaped_row (row_bytes records) ≡ shaped_records records
shaped-records records size =
    ap shaped_row (sym (row_bytes_is records size))
    ∙ all_below_cong _ _ 240 (λ k lt. ap well_shaped (cell_at_row_of entry_cells (entry_at records) 240 k lt))

module _ (c : Call) (records : List ObjBufferEntry) (output : List ℕ) where
  -- Where a length is wrong, the shape doesn't count.
  first_records : first_of (bytes_table c (row_bytes records) output) ≡ first_of (records_table c records output)
  first_records =
      ap (λ sized. first_of (draw_table c sized (shaped_row (row_bytes records)))) (lengths_records c.memory records output)
      ∙ go (record_lengths c.memory records output) refl
    where
      go : (sized : Bool) → record_lengths c.memory records output ≡ sized
          → first_of (draw_table c sized (shaped_row (row_bytes records))) ≡ first_of (draw_table c sized (shaped_records records))
      go false e = refl
      go true e =
          let sized = lengths_are c.memory (row_bytes records) output (lengths_records c.memory records output ∙ e) in
          let size : length records ≡ 240 = omega (arith, sized.entries_is, length-row_bytes records) in
          ap (λ shaped. first_of (draw_table c true shaped)) (shaped-records records size)

  pub number_records : (draw_records c records output).number ≡ first_of (records_table c records output)
  unfolding draw_records
  number_records = number-draw c (row_bytes records) output ∙ first_records

  pub records-refused : (draw_records c records output).number ≢ 0
      → ((draw_records c records output).records ≡ records) × ((draw_records c records output).output ≡ output)
  unfolding draw_records writes
  records-refused n =
      (rw (ne_eqb (draw c (row_bytes records) output).number 0 n), (draw-refused c (row_bytes records) output n).1)

  -- The first three rows are those of the bytes.
  none-bytes : NoneOf 3 (records_table c records output) → NoneOf 3 (bytes_table c (row_bytes records) output)
  none-bytes none zero lt = none 0 lt
  none-bytes none (suc zero) lt = ap not (lengths_records c.memory records output) ∙ none 1 lt
  none-bytes none (suc (suc zero)) lt = none 2 lt
  none-bytes none (suc (suc (suc k))) lt = absurd (omega arith)

  module _ (on : force_blank (dispcnt c.memory.registers) ≡ true) where
    pub records_keeps : (draw_records c records output).records ≡ records
    unfolding draw_records writes
    records_keeps = rw (on, and-false (eqb (draw c (row_bytes records) output).number 0))

    pub records-blank : NoneOf 3 (records_table c records output)
        → ((draw_records c records output).number ≡ 0) × ((draw_records c records output).output ≡ blank_line)
    unfolding draw_records
    records-blank none = draw-blank c (row_bytes records) output on (none-bytes none)

-- A row of records drawn on any number of times holds what the row of bytes holds. No contract cites this file.
-- Assumes nothing.
use Rattle.refusals.specs.Refusal.{refusal_number, outcome_number}
use Prim.Native.Nat.{ℕ, zero, suc, ◌+◌, ◌≤◌, ◌<◌, min}
use native.Mathlib.Omega.{arith}
use mathlib.Core.Path.{◌≡◌, refl, sym, ap, ◌∙◌}
use mathlib.Core.Bool.{Bool, true, false, not, cond, ◌&&◌, ◌||◌}
use mathlib.Core.List.{List, [], ◌∷◌}
use mathlib.Core.Logic.{⊎_elim}
use lib.Dec.{eqb, leb}
use lib.ListN.{length}
use borrow.Author.Tests.{eqb-true, leb-true}
use Rattle.bits.specs.Bits.{bit}
use Rattle.rgb15.specs.Colour.{transparent}
use Rattle.bits.proofs.Booleans.{and_both}
use Rattle.rows.specs.Cells.{cell_at, Exact}
use Rattle.rows.proofs.Below.{all_below_at}
use Rattle.rows.proofs.Cells.{length_row_of, cell_at_row_of, exact_row_of, row_of_ext}
use Rattle.rows.proofs.Tab.{length-tab, get_or-tab, tab_cong}
use Rattle.obj_entries.specs.Entry.{entry_cells, semi_mark, reset_row, well_shaped, shaped_row}
use Rattle.obj_entries.specs.declared.Entry.{Entry}
use Rattle.bits.proofs.Booleans.{or_split}
use Rattle.obj_entries.proofs.Shapes.{shaped_row-reset}
use Rattle.obj.proofs.Shapes.{shaped_row-after}
use Rattle.gpu_judge.specs.Judge.{Call}
use Rattle.gpu.specs.Draw.{given, draw}
use Rattle.thm_order.specs.Draws.{Attempt, row_left, row_after, puts_pixels}
use Rattle.thm_order.proofs.Rows.{sprite_row, row_left_is}
use Rattle.gpu_judge.proofs.Verdicts.{verdict_cases}
use Rattle.gpu_records.specs.Entries.{entry_of_record, record_of, reset_record, row_bytes, records_in}
use Rattle.gpu_records.specs.declared.entry.ObjBufferEntry.{ObjBufferEntry}
use Rattle.gpu_records.proofs.Rows.{entry_at, row_bytes_is}
use Rattle.gpu_draw_records.specs.Draw.{writes, draw_records}
use Rattle.thm_order_records.specs.Again.{reset_records, records_after, SameAsBytes}

-- ---- an entry and its record

-- Marks of at most 3 are two bits.
two_marks : (m : ℕ) → m ≤ 3 → cond (bit 0 m) 1 0 + cond (bit 1 m) 2 0 ≡ m
two_marks zero h = refl
two_marks (suc zero) h = refl
two_marks (suc (suc zero)) h = refl
two_marks (suc (suc (suc zero))) h = refl
two_marks (suc (suc (suc (suc m)))) h = absurd (omega arith)

-- A well-shaped entry has no others, and a priority of at most 4.
marks_bound : (e : Entry) → well_shaped e ≡ true → e.marks ≤ 3
unfolding well_shaped
marks_bound e shaped = leb-true _ _ (and_both _ _ shaped).0

priority_bound : (e : Entry) → well_shaped e ≡ true → e.priority ≤ 4
unfolding well_shaped
priority_bound e shaped =
    go e.priority (eqb e.color.0 transparent) (not (semi_mark e)) (leb e.color.0 0x7fff)
    (and_both (leb e.marks 3) _ shaped).1
  where
    go : (p : ℕ) (t u v : Bool) → ((eqb p 4 && t && u) || (leb p 3 && v)) ≡ true → p ≤ 4
    go p t u v e =
        ⊎_elim
        (λ h. let blank = eqb-true p 4 (and_both (eqb p 4) t (and_both (eqb p 4 && t) u h).0).0 in omega arith)
        (λ h. let shown = leb-true p 3 (and_both (leb p 3) v h).0 in omega arith)
        (or_split (eqb p 4 && t && u) (leb p 3 && v) e)

-- The record of a well-shaped entry stands for it.
entry_of_record-record_of : (e : Entry) → well_shaped e ≡ true → entry_of_record (record_of e) ≡ e
unfolding entry_of_record record_of
entry_of_record-record_of e shaped =
    let low : min 255 e.priority ≡ e.priority = omega (arith, priority_bound e shaped) in
    rw (low, two_marks e.marks (marks_bound e shaped))

-- ---- a row of bytes and its records

-- What draws on a reset row keep: 960 bytes, of well-shaped entries.
record Kept (row : List ℕ) : Type 0 where
  size : length row ≡ 960
  exact : (k : ℕ) → k < 240 → Exact entry_cells row k
  shaped : shaped_row row ≡ true

-- The records of such a row stand for its bytes.
row_bytes-records_in : (row : List ℕ) → Kept row → row_bytes (records_in row) ≡ row
unfolding records_in
row_bytes-records_in row kept =
    sym (row_bytes_is (records_in row) (length-tab _ 240))
    ∙ sym
    (row_of_ext entry_cells (entry_at (records_in row)) 240 row kept.size kept.exact
    (λ k lt.
    sym (ap entry_of_record (get_or-tab _ 240 k reset_record lt)
    ∙ entry_of_record-record_of (cell_at entry_cells row k) (all_below_at _ 240 kept.shaped k lt))))

kept-reset : Kept reset_row
kept-reset =
    record { size = length_row_of entry_cells _ 240; exact = exact_row_of entry_cells _ 240; shaped = shaped_row-reset }

-- The reset records are those of the reset row.
reset_records_is : reset_records ≡ records_in reset_row
unfolding records_in
reset_records_is = tab_cong _ _ 240 (λ k lt. ap record_of (sym (cell_at_row_of entry_cells _ 240 k lt)))

-- ---- draws

kept-draw : (a : Attempt) (row : List ℕ) → Kept row → Kept (row_left a row)
kept-draw a row kept = rw (row_left_is a row) (go (puts_pixels a row))
  where
    go : (t : Bool) → Kept (cond t (sprite_row a row) row)
    go false = kept
    go true =
        record {
          size = length_row_of entry_cells _ 240;
          exact = exact_row_of entry_cells _ 240;
          shaped = shaped_row-after _ _ _ row kept.shaped;
        }

-- A draw that doesn't write the records leaves the bytes, so that the records are those of the bytes in either case.
records-left : (c : Call) (row output : List ℕ)
    → cond (writes (draw c row output).number c.memory.registers) (records_in (draw c row output).entries) (records_in row)
    ≡ records_in (draw c row output).entries
unfolding draw given outcome_number refusal_number writes
records-left c row output =
    verdict_cases c row output
    (λ v.
    cond (writes (given v c row output).number c.memory.registers) (records_in (given v c row output).entries) (records_in row)
    ≡ records_in (given v c row output).entries)
    refl refl refl
    (λ blank _. rw blank)
    refl refl refl
    (λ _. refl)
    (λ lit _. rw lit)

records-draw : (a : Attempt) (row : List ℕ) → Kept row
    → (draw_records a.call (records_in row) a.output).records ≡ records_in (row_left a row)
unfolding draw_records
records-draw a row kept = rw (row_bytes-records_in row kept) (records-left a.call row a.output)

records_draws : (draws : List Attempt) (records : List ObjBufferEntry) (row : List ℕ) → Kept row → records ≡ records_in row
    → records_after draws records ≡ records_in (row_after draws row)
unfolding records_after row_after
records_draws [] records row kept e = e
records_draws (a ∷ rest) records row kept e =
    records_draws rest _ (row_left a row) (kept-draw a row kept)
    (ap (λ r. (draw_records a.call r a.output).records) e ∙ records-draw a row kept)

kept_draws : (draws : List Attempt) (row : List ℕ) → Kept row → Kept (row_after draws row)
unfolding row_after
kept_draws [] row kept = kept
kept_draws (a ∷ rest) row kept = kept_draws rest (row_left a row) (kept-draw a row kept)

-- Demand 3 carried over.
pub same_as-bytes : (draws : List Attempt) → SameAsBytes draws
unfolding draw_records
same_as-bytes draws =
    let records = records_draws draws reset_records reset_row kept-reset reset_records_is in
    let bytes = ap row_bytes records ∙ row_bytes-records_in _ (kept_draws draws reset_row kept-reset) in
    record {
      records_are = records;
      bytes_are = bytes;
      number_is = λ next. ap (λ row. (draw next.call row next.output).number) bytes;
      output_is = λ next. ap (λ row. (draw next.call row next.output).output) bytes;
    }

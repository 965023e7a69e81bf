-- Laws of rows of records and of their bytes. No contract cites this file. Assumes nothing.
use Prim.Native.Nat.{ℕ, zero, suc, ◌*◌, ◌≤◌, ◌<◌}
use native.Mathlib.Nat.{not-suc-le-zero, le_of_suc-le-suc}
use mathlib.Core.Path.{◌≡◌, refl, sym, ap, ◌∙◌}
use mathlib.Core.List.{List, [], ◌∷◌}
use lib.ListN.{length, get_or}
use Rattle.rows.specs.Cells.{row_of}
use Rattle.rows.proofs.Cells.{length_row_of}
use Rattle.rows.proofs.Passed.{Passed, filled}
use Rattle.obj_entries.specs.Entry.{entry_cells}
use Rattle.obj_entries.specs.declared.Entry.{Entry}
use Rattle.gpu_records.specs.Entries.{entry_of_record, reset_record, row_bytes}
use Rattle.gpu_records.specs.declared.entry.ObjBufferEntry.{ObjBufferEntry}

-- What stands for a missing element is not read where there is one.
pub get_or-within : {A : Type 0} (l : List A) (k : ℕ) (d e : A) → k < length l → get_or l k d ≡ get_or l k e
get_or-within [] k d e h = absurd (not-suc-le-zero h)
get_or-within (a ∷ l) zero d e h = refl
get_or-within (a ∷ l) (suc k) d e h = get_or-within l k d e (le_of_suc-le-suc h)

-- The entry of record k.
abbrev pub entry_at : List ObjBufferEntry → ℕ → Entry
entry_at records k = entry_of_record (get_or records k reset_record)

pub length-row_bytes : (records : List ObjBufferEntry) → length (row_bytes records) ≡ 4 * length records
unfolding row_bytes
length-row_bytes records = length_row_of entry_cells (entry_at records) (length records)

-- A row of 240 has the bytes that a loop over 240 puts.
pub row_bytes_is : (records : List ObjBufferEntry) → length records ≡ 240
    → row_of entry_cells (entry_at records) 240 ≡ row_bytes records
unfolding row_bytes
row_bytes_is records size = ap (row_of entry_cells (entry_at records)) (sym size)

pub row_bytes_filled : (records : List ObjBufferEntry) {bytes₀ bytes : List ℕ} {k : ℕ} → length records ≡ 240
    → Passed entry_cells (λ k _. entry_at records k) 240 bytes₀ k bytes → 240 ≤ k → bytes ≡ row_bytes records
row_bytes_filled records size passed past = filled entry_cells passed past ∙ row_bytes_is records size

-- What a draw over a row of records gives, by what the code finds. No contract cites this file. Assumes nothing.
use Prim.Native.Nat.{ℕ}
use native.Mathlib.Omega.{arith}
use mathlib.Core.Path.{◌≡◌, refl, sym, ap, ◌∙◌}
use mathlib.Core.Bool.{true, false, cond}
use mathlib.Core.List.{List}
use lib.Dec.{eqb}
use lib.ListN.{length}
use Rattle.std.specs.declared.result.Result.{Result}
use Rattle.std.specs.declared.result.Result.TheVariants.{Ok, Err}
use Rattle.memory.specs.Sizes.{output_size}
use Rattle.refusals.specs.Refusal.{refusal_number, outcome_number}
use Rattle.refusals.specs.declared.Refusal.{Refusal}
use Rattle.refusals.specs.declared.Refusal.TheVariants.{
  BadReading,
  BadLength,
  BadLine,
  BadMode,
  BadBldy,
  BadReference,
  BadEntry,
  BadColumn,
  BadPage,
  OddAddress,
}
use Rattle.regs.specs.Registers.{dispcnt}
use Rattle.regs.specs.Display.{force_blank}
use Rattle.gpu_judge.specs.Judge.{Call}
use Rattle.gpu_judge.specs.Code.{request, judged, call_in}
use Rattle.gpu_judge.specs.declared.Picture.{Picture}
use Rattle.gpu_judge.specs.declared.Picture.TheVariants.{Blank, Drawn}
use Rattle.gpu_judge.specs.declared.Request.{Request}
use Rattle.gpu_judge.proofs.Verdicts.{call_asked, judged_tells}
use Rattle.gpu.specs.Draw.{Drawing, given, Draws}
use Rattle.gpu.proofs.Given.{draws_unasked, draws_short, draws_cut, draws_judged}
use Rattle.gpu_records.specs.Entries.{row_bytes, records_in}
use Rattle.gpu_records.specs.declared.entry.ObjBufferEntry.{ObjBufferEntry}
use Rattle.gpu_records.proofs.Rows.{length-row_bytes}
use Rattle.gpu_draw_records.specs.Draw.{writes, draw_records, DrawsRecords}

-- ---- what a refusal does

-- A refusal's number isn't 0.
refusal_some : (e : Refusal) → eqb (refusal_number e) 0 ≡ false
unfolding refusal_number
refusal_some BadReading = refl
refusal_some BadLength = refl
refusal_some BadLine = refl
refusal_some BadMode = refl
refusal_some BadBldy = refl
refusal_some BadReference = refl
refusal_some BadEntry = refl
refusal_some BadColumn = refl
refusal_some BadPage = refl
refusal_some OddAddress = refl

module _ (c : Call) (records : List ObjBufferEntry) (output : List ℕ) where
  -- The draw over records is the byte form's.
  by_bytes : {number : ℕ} {entriesLeft outputLeft : List ℕ} → Draws c (row_bytes records) output number entriesLeft outputLeft
      → DrawsRecords c records output number
      (cond (writes number c.memory.registers) (records_in entriesLeft) records) outputLeft
  unfolding draw_records
  by_bytes drew =
      ap
      (λ (d : Drawing).
      record {
        number = d.number;
        records = cond (writes d.number c.memory.registers) (records_in d.entries) records;
        output = d.output;
      })
      drew

  -- A refusal leaves the records.
  refused_by : (e : Refusal) {entriesLeft outputLeft : List ℕ}
      → Draws c (row_bytes records) output (refusal_number e) entriesLeft outputLeft
      → DrawsRecords c records output (refusal_number e) records outputLeft
  unfolding writes
  refused_by e drew = rw (refusal_some e) at (by_bytes drew)

  pub records_unasked : {e : Refusal} → request c ≡ Err e → DrawsRecords c records output (refusal_number e) records output
  records_unasked {e} refused = refused_by e (draws_unasked c (row_bytes records) output refused)

  module _ {r : Request} (asks : request c ≡ Ok r) where
    pub records_short : (length records ≡ 240 → ⊥) → DrawsRecords c records output 2 records output
    unfolding refusal_number
    records_short n =
        refused_by BadLength
        (draws_short c (row_bytes records) output asks (λ size. n (omega (arith, length-row_bytes records, size))))

    module _ (whole : length records ≡ 240) where
      sized : length (row_bytes records) ≡ 960
      sized = omega (arith, length-row_bytes records)

      pub records_cut : {row : List ObjBufferEntry} → row ≡ records → (length output ≡ output_size → ⊥)
          → DrawsRecords c records output 2 row output
      unfolding refusal_number
      records_cut row_is n =
          rw row_is (refused_by BadLength (draws_cut c (row_bytes records) output asks refl sized n))

      -- What was drawn on the bytes.
      module _ {row : List ObjBufferEntry} (row_is : row ≡ records) {o : List ℕ} (o-is : o ≡ output) (full : length o ≡ output_size)
          {bytes : List ℕ} (bytes_are : bytes ≡ row_bytes row)
          {v : Result Picture Refusal} (v-is : v ≡ judged r bytes) {entriesLeft outputLeft : List ℕ}
          (gave : record { number = outcome_number v; entries = entriesLeft; output = outputLeft } ≡ given v (call_in r) bytes o)
        where
          drew : Draws c (row_bytes records) output (outcome_number v) entriesLeft outputLeft
          drew =
              let same : bytes ≡ row_bytes records = bytes_are ∙ ap row_bytes row_is in
              draws_judged c (row_bytes records) output asks same o-is (ap length same ∙ sized) full v-is gave

          pub records_refused : {e : Refusal} → v ≡ Err e → DrawsRecords c records output (refusal_number e) row outputLeft
          unfolding outcome_number
          records_refused {e} is = rw row_is (refused_by e (rw is at drew))

          -- Whether forced blank is on, as the draw found.
          lit_by : {p : Picture} → v ≡ Ok p → judged r bytes ≡ Ok p
          lit_by is = sym v-is ∙ is

          pub records_kept : v ≡ Ok Blank → DrawsRecords c records output 0 row outputLeft
          unfolding outcome_number writes
          records_kept is =
              let on : force_blank (dispcnt c.memory.registers) ≡ true =
              rw (sym (call_asked c asks)) (judged_tells r bytes (lit_by is))
              in
              rw row_is (rw on at (by_bytes (rw is at drew)))

          pub records_written : v ≡ Ok Drawn → {zs : List ObjBufferEntry} → zs ≡ records_in entriesLeft
              → DrawsRecords c records output 0 zs outputLeft
          unfolding outcome_number writes
          records_written is zs-are =
              let off : force_blank (dispcnt c.memory.registers) ≡ false =
              rw (sym (call_asked c asks)) (judged_tells r bytes (lit_by is)).lit
              in
              rw zs-are (rw off at (by_bytes (rw is at drew)))

  -- A number, a row and an output that satisfy the contract are the only ones.
  pub draws_once : {m n : ℕ} {r s : List ObjBufferEntry} {u v : List ℕ}
      → DrawsRecords c records output m r u → DrawsRecords c records output n s v
      → (m ≡ n) × (r ≡ s) × (u ≡ v)
  draws_once p q =
      let same = p ∙ sym q in
      (ap (λ d. d.number) same, ap (λ d. d.records) same, ap (λ d. d.output) same)

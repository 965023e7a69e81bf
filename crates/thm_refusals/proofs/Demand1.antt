-- Demand 1 holds of every routine. No contract cites this file. Assumes nothing.
use Prim.Native.Nat.{ℕ}
use mathlib.Core.Path.{◌≡◌, refl, sym, subst}
use mathlib.Core.Bool.{true}
use mathlib.Core.List.{List}
use mathlib.Core.Logic.{◌≢◌}
use Rattle.regs.specs.Registers.{dispcnt}
use Rattle.regs.specs.Display.{force_blank}
use Rattle.rows.specs.Answer.{Answer}
use Rattle.gpu.specs.Draw.{Drawing}
use Rattle.gpu_records.specs.Step.{PairStep}
use Rattle.gpu_draw_records.specs.Draw.{RecordDrawing}
use Rattle.explain.proofs.Numbers.{reason-refused}
use Rattle.gpu_bus.specs.Read.{refused_byte}
use Rattle.gpu_bus.specs.Store.{Stored}
use Rattle.gpu_bus.specs.declared.Byte.{Byte}
use Rattle.thm_refusals.specs.Table.{Row}
use Rattle.thm_refusals.specs.Demand1.{Judges, Blanks, Demand1, bytes_table, records_table, reset_table, step_table, pair_table, explain_table, read_table, store_table}
use Rattle.thm_refusals.proofs.Tables.{first_of, rises, judged_first}
use Rattle.thm_refusals.proofs.Draws.{number-draw, draw-refused, draw_keeps, draw-blank}
use Rattle.thm_refusals.proofs.Records.{number_records, records-refused, records_keeps, records-blank}
use Rattle.thm_refusals.proofs.Explains.{number-explain, explain-blank}
use Rattle.thm_refusals.proofs.Steps.{reset_fits, step_fits, pair_fits}
use Rattle.thm_refusals.proofs.Bus.{read_fits, store_fits}

-- A routine whose number is the first of its table, and which leaves what was lent where that isn't 0.
judges : (table : List Row) {number : ℕ} {Unchanged : Type 0} → rises 0 table ≡ true → number ≡ first_of table
    → (number ≢ 0 → Unchanged) → Judges table number Unchanged
judges table up first unchanged =
    record { judged = rw first (judged_first 0 table up); unchanged = unchanged }

-- Demand 1.
pub demand-1 : Demand1
demand-1 =
    record {
      draw = λ c entries output d.
          subst
          (λ (a : Drawing).
          Judges (bytes_table c entries output) a.number ((a.entries ≡ entries) × (a.output ≡ output))
          × (force_blank (dispcnt c.memory.registers) ≡ true
          → Blanks (bytes_table c entries output) a.number entries a.entries a.output))
          (sym d) (
            judges (bytes_table c entries output) refl (number-draw c entries output) (draw-refused c entries output),
            λ on. record { keeps = draw_keeps c entries output on; draws = draw-blank c entries output on },
          );
      draw-records = λ c records output d.
          subst
          (λ (a : RecordDrawing).
          Judges (records_table c records output) a.number ((a.records ≡ records) × (a.output ≡ output))
          × (force_blank (dispcnt c.memory.registers) ≡ true
          → Blanks (records_table c records output) a.number records a.records a.output))
          (sym d) (
            judges (records_table c records output) refl (number_records c records output) (records-refused c records output),
            λ on. record { keeps = records_keeps c records output on; draws = records-blank c records output on },
          );
      reset = λ entries d.
          subst (λ (a : Answer). Judges (reset_table entries) a.number (a.bytes ≡ entries)) (sym d)
          (judges (reset_table entries) refl (reset_fits entries).0 (reset_fits entries).1);
      step = λ s bytes d.
          subst (λ (a : Answer). Judges (step_table s bytes) a.number (a.bytes ≡ bytes)) (sym d)
          (judges (step_table s bytes) refl (step_fits s bytes).0 (step_fits s bytes).1);
      step-records = λ bg2 bg3 d.
          subst (λ (a : PairStep). Judges (pair_table bg2 bg3) a.number ((a.bg2 ≡ bg2) × (a.bg3 ≡ bg3))) (sym d)
          (judges (pair_table bg2 bg3) refl (pair_fits bg2 bg3).0 (pair_fits bg2 bg3).1);
      explain = λ c entries column r-is. (
        judges (explain_table c entries column) refl (number-explain c entries column r-is)
            (reason-refused c entries column r-is),
        explain-blank c entries column r-is,
      );
      read8 = λ address m d.
          subst (λ (b : Byte). Judges (read_table address m) b.number (b ≡ refused_byte b.number)) (sym d)
          (judges (read_table address m) refl (read_fits address m).0 (read_fits address m).1);
      store = λ s m d.
          subst (λ (a : Stored). Judges (store_table s m) a.number (a.memories ≡ m)) (sym d)
          (judges (store_table s m) refl (store_fits s m).0 (store_fits s m).1);
    }

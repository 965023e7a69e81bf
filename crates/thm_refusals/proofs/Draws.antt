-- What the draws give is what their tables give. No contract cites this file. Assumes nothing.
use Rattle.refusals.specs.Refusal.{refusal_number, outcome_number}
use Prim.Native.Nat.{ℕ}
use native.Mathlib.Omega.{arith}
use mathlib.Core.Path.{◌≡◌, refl, sym, ap, ◌∙◌}
use mathlib.Core.Bool.{Bool, true, false, cond, not, true≢false}
use mathlib.Core.List.{List}
use mathlib.Core.Logic.{◌≢◌}
use lib.Dec.{leb, ltb}
use Rattle.memory.specs.Sizes.{display_height}
use Rattle.regs.specs.Registers.{dispcnt}
use Rattle.regs.specs.Display.{force_blank}
use Rattle.gpu_judge.specs.Judge.{Call, blank_off, have_lengths, verdict}
use Rattle.std.specs.declared.result.Result.TheVariants.{Ok, Err}
use Rattle.gpu_judge.specs.declared.Picture.TheVariants.{Blank, Drawn}
use Rattle.refusals.specs.declared.Refusal.TheVariants.{
  BadReading,
  BadLength,
  BadLine,
  BadMode,
  BadBldy,
  BadReference,
  BadEntry,
}
use Rattle.gpu_judge.proofs.Verdicts.{verdict_cases}
use Rattle.gpu.specs.Line.{blank_line}
use Rattle.gpu.specs.Draw.{given, draw}
use Rattle.thm_refusals.specs.Table.{row_at, NoneOf}
use Rattle.thm_refusals.specs.Demand1.{bytes_table}
use Rattle.thm_refusals.proofs.Tables.{first_of}

module _ (c : Call) (entries output : List ℕ) where
  -- The verdicts of a staircase have the numbers of their rows.
  number_staircase : (reading length line mode bldy reference entry shown : Bool)
      → (given
      (cond reading (Err BadReading) (cond length (Err BadLength) (cond line (Err BadLine) (cond mode (Err BadMode)
      (cond bldy (Err BadBldy) (cond reference (Err BadReference) (cond entry (Err BadEntry) (cond shown (Ok Drawn) (Ok Blank)))))))))
      c entries output).number
      ≡ cond reading 1 (cond length 2 (cond line 3 (cond mode 4 (cond bldy 5 (cond reference 6 (cond entry 7 0))))))
  unfolding given outcome_number refusal_number
  number_staircase true l i m y r e s = refl
  number_staircase false true i m y r e s = refl
  number_staircase false false true m y r e s = refl
  number_staircase false false false true y r e s = refl
  number_staircase false false false false true r e s = refl
  number_staircase false false false false false true e s = refl
  number_staircase false false false false false false true s = refl
  number_staircase false false false false false false false true = refl
  number_staircase false false false false false false false false = refl

  pub number-draw : (draw c entries output).number ≡ first_of (bytes_table c entries output)
  unfolding draw verdict
  number-draw = number_staircase (t 0) (t 1) (t 2) (t 3) (t 4) (t 5) (t 6) (blank_off c)
    where
      t : ℕ → Bool
      t i = (row_at (bytes_table c entries output) i).applies

  -- A draw whose number isn't 0 leaves the entries and the output.
  pub draw-refused : (draw c entries output).number ≢ 0
      → ((draw c entries output).entries ≡ entries) × ((draw c entries output).output ≡ output)
  unfolding draw given outcome_number refusal_number
  draw-refused =
      verdict_cases c entries output
      (λ v.
      let d = given v c entries output in
      d.number ≢ 0 → (d.entries ≡ entries) × (d.output ≡ output))
      (λ _. (refl, refl)) (λ _. (refl, refl)) (λ _. (refl, refl)) (λ _ _ n. absurd (n refl))
      (λ _. (refl, refl)) (λ _. (refl, refl)) (λ _. (refl, refl)) (λ _ _. (refl, refl))
      (λ _ _ n. absurd (n refl))

  module _ (on : force_blank (dispcnt c.memory.registers) ≡ true) where
    pub draw_keeps : (draw c entries output).entries ≡ entries
    unfolding draw given
    draw_keeps =
        verdict_cases c entries output (λ v. (given v c entries output).entries ≡ entries)
        refl refl refl (λ _ _. refl) refl refl refl (λ _. refl)
        (λ off _. absurd (true≢false (sym on ∙ off)))

    -- Forced blank is stopped by the first three tests only.
    verdict-blank : verdict c entries output
        ≡ cond (ltb 1 c.reading) (Err BadReading)
        (cond (not (have_lengths c.memory entries output)) (Err BadLength) (cond (leb display_height c.line) (Err BadLine) (Ok Blank)))
    unfolding verdict
    verdict-blank = rw on

    pub draw-blank : NoneOf 3 (bytes_table c entries output)
        → ((draw c entries output).number ≡ 0) × ((draw c entries output).output ≡ blank_line)
    unfolding draw given outcome_number refusal_number
    draw-blank none =
        let blank : verdict c entries output ≡ Ok Blank =
        verdict-blank ∙ rw (none 0 (omega arith), none 1 (omega arith), none 2 (omega arith)) in
        (ap (λ v. (given v c entries output).number) blank, ap (λ v. (given v c entries output).output) blank)

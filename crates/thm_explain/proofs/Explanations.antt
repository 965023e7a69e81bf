-- What is proved of explanations, for every input. No contract cites this file. Assumes nothing.
use Prim.Native.Nat.{ℕ, ◌<◌}
use mathlib.Core.Path.{◌≡◌, refl, sym, ap, ◌∙◌}
use mathlib.Core.Bool.{Bool, true, false}
use mathlib.Core.List.{List}
use mathlib.Core.Logic.{◌↔◌}
use lib.ListN.{length}
use Rattle.rows.specs.Cells.{cell_at}
use Rattle.rows.specs.Words.{word_cells}
use Rattle.memory.specs.Sizes.{output_size}
use Rattle.regs.specs.Reading.{reading_of}
use Rattle.gpu_judge.specs.Judge.{Call}
use Rattle.gpu.specs.Line.{entries_after}
use Rattle.gpu.specs.Draw.{Draws}
use Rattle.gpu.proofs.Given.{ready-after}
use Rattle.explain.specs.Reason.{case_reason}
use Rattle.explain.specs.Explain.{case_at, whole_output, Explains}
use Rattle.explain.specs.declared.Reason.{Reason}
use Rattle.explain.proofs.Numbers.{is_blank, passed, number-zero, reason-number, reason-shown, reason_blank}
use Rattle.thm_explain.specs.Fits.{worked_out, Fits, blank, shown}
use Rattle.thm_explain.specs.Explanations.{column_of, Explanations}
use Rattle.thm_explain.proofs.Colors.{worked_out_shown, pixel_fits}
use Rattle.thm_explain.proofs.Numbers.{draws-number, draws_at, reason_accepted}
use Rattle.thm_explain.proofs.Once.{fits_once}
use Rattle.thm_explain.proofs.Reasons.{reason_fits}

module _ (c : Call) (entries : List ℕ) (column : ℕ) {r : Reason} (r-is : Explains c entries column r) where
  -- ---- beside a draw of the same input

  module _ (output : List ℕ) (size : length output ≡ output_size) {number : ℕ} {entriesLeft outputLeft : List ℕ}
      (d : Draws c entries output number entriesLeft outputLeft) where
    accepted_both : (r.number ≡ 0) ↔ ((number ≡ 0) × (column < 240))
    accepted_both =
        let zero_is = number-zero c entries column in
        let same = reason-number c entries column r-is in
        let number_is = draws-number c entries output size d in (
          λ e. let both = zero_is.0 (sym same ∙ e) in (number_is ∙ both.0, both.1),
          λ both. same ∙ zero_is.1 (sym number_is ∙ both.0, both.1),
        )

    worked_out-drawn : r.number ≡ 0 → worked_out r ≡ cell_at word_cells outputLeft column
    worked_out-drawn zero_is =
        let both = reason_accepted c entries column r-is zero_is in
        ap worked_out (reason-shown c entries column r-is zero_is)
        ∙ worked_out_shown c entries column
        ∙ sym (draws_at c entries output size d column both.1 both.0)

  -- ---- which reason it is

  module _ (zero_is : r.number ≡ 0) where
    reason_case : is_blank c ≡ false
        → r ≡ case_reason (reading_of c.reading) c.memory.registers (case_at c (entries_after c entries) column)
    reason_case off = rw off at (reason-shown c entries column r-is zero_is)

    explained_fits : Fits (column_of c entries column) r
    explained_fits = go (is_blank c) refl
      where
        go : (t : Bool) → is_blank c ≡ t → Fits (column_of c entries column) r
        go true on = blank on (reason_blank c entries column r-is zero_is on)
        go false off =
            let both = reason_accepted c entries column r-is zero_is in
            let ready = ready-after c entries whole_output ((passed c entries both.0).1 off) in
            shown off (rw (reason_case off) (reason_fits (column_of c entries column) ready.shaped both.1))

-- An explanation is accepted as a draw is, its reason alone fits, and the colour by it is the drawn one.
pub explanations : Explanations
explanations =
    record {
      accepted = λ c entries output column r-is size d. accepted_both c entries column r-is output size d;
      reason_blank = reason_blank;
      reason_case = reason_case;
      one_fits = λ c entries column r-is zero_is.
          let fits = explained_fits c entries column r-is zero_is in
          (fits, λ other other_fits. fits_once (column_of c entries column) other_fits fits);
      drawn = λ c entries output column r-is zero_is size d.
          let drawn_is = worked_out-drawn c entries column r-is output size d zero_is in
          (drawn_is, pixel_fits (column_of c entries column) (explained_fits c entries column r-is zero_is) ∙ drawn_is);
      once = λ c entries column r-is other-is. other-is ∙ sym r-is;
    }

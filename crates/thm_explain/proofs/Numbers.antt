-- What is drawn beside an explanation, and what an accepted one has. No contract cites this file. Assumes nothing.
use Rattle.refusals.specs.Refusal.{outcome_number}
use Prim.Native.Nat.{ℕ, ◌<◌}
use mathlib.Core.Path.{◌≡◌, sym, ap, ◌∙◌}
use mathlib.Core.Bool.{cond}
use mathlib.Core.List.{List}
use lib.ListN.{length}
use Rattle.rows.specs.Cells.{cell_at}
use Rattle.rows.specs.Words.{word_cells}
use Rattle.rows.proofs.Cells.{cell_at_row_of}
use Rattle.rows.proofs.Tab.{length-tab}
use Rattle.memory.specs.Sizes.{output_size}
use Rattle.gpu_judge.specs.Judge.{Call, have_lengths, verdict}
use Rattle.gpu.specs.Line.{entries_after, pixel_at, line_after}
use Rattle.gpu.specs.Draw.{Drawing, given, draw, Draws}
use Rattle.explain.specs.Explain.{whole_output, Explains}
use Rattle.explain.specs.declared.Reason.{Reason}
use Rattle.explain.proofs.Numbers.{draw-number, is_blank, zero_cases, number-zero, reason-number}

-- ---- what is drawn

module _ (c : Call) (entries : List ℕ) where
  -- What is drawn at a column, where nothing is refused.
  abbrev pub drawn_at : ℕ → ℕ
  drawn_at column = cond (is_blank c) 0xf8f8f8 (pixel_at c (entries_after c entries) column)

  module _ (output : List ℕ) where
    draw_at : (column : ℕ) → column < 240 → outcome_number (verdict c entries output) ≡ 0
        → cell_at word_cells (draw c entries output).output column ≡ drawn_at column
    unfolding draw given line_after
    draw_at column column< =
        zero_cases c entries output (λ v. cell_at word_cells (given v c entries output).output column ≡ drawn_at column)
        (λ on _. rw on (cell_at_row_of word_cells _ 240 column column<))
        (λ off _. rw off (cell_at_row_of word_cells _ 240 column column<))

    module _ (size : length output ≡ output_size) where
      -- The verdict asks nothing of the output but its length.
      verdict_whole : verdict c entries output ≡ verdict c entries whole_output
      unfolding verdict have_lengths
      verdict_whole = rw (size, length-tab {A = ℕ} (λ _. 0) output_size)

      module _ {number : ℕ} {entriesLeft outputLeft : List ℕ} (d : Draws c entries output number entriesLeft outputLeft) where
        pub draws-number : number ≡ outcome_number (verdict c entries whole_output)
        draws-number =
            ap (λ (drawn : Drawing). drawn.number) d
            ∙ draw-number c entries output
            ∙ ap outcome_number verdict_whole

        pub draws_at : (column : ℕ) → column < 240 → outcome_number (verdict c entries whole_output) ≡ 0
            → cell_at word_cells outputLeft column ≡ drawn_at column
        draws_at column column< zero_is =
            ap (λ (drawn : Drawing). cell_at word_cells drawn.output column) d
            ∙ draw_at column column< (ap outcome_number verdict_whole ∙ zero_is)

-- ---- what is explained

-- Neither a refusal nor a column outside.
pub reason_accepted : (c : Call) (entries : List ℕ) (column : ℕ) {r : Reason} → Explains c entries column r → r.number ≡ 0
    → (outcome_number (verdict c entries whole_output) ≡ 0) × (column < 240)
reason_accepted c entries column r-is zero_is =
    (number-zero c entries column).0 (sym (reason-number c entries column r-is) ∙ zero_is)

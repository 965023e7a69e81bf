-- What an explanation gives is what its table gives. No contract cites this file. Assumes nothing.
use Rattle.refusals.specs.Refusal.{outcome_number}
use Prim.Native.Nat.{ℕ, ◌<◌}
use native.Mathlib.Omega.{arith}
use mathlib.Core.Path.{◌≡◌, refl, sym, ap, ◌∙◌}
use mathlib.Core.Bool.{Bool, true, false, cond, and-true}
use mathlib.Core.List.{List, [], ◌∷◌}
use lib.Dec.{leb, ltb}
use borrow.Author.Tests.{ltb-true, ltb-false, le-leb, lt-leb}
use Rattle.rows.proofs.Tab.{length-tab}
use Rattle.memory.specs.Sizes.{display_width, output_size}
use Rattle.regs.specs.Registers.{dispcnt}
use Rattle.regs.specs.Display.{force_blank}
use Rattle.obj_entries.specs.Entry.{shaped_row}
use Rattle.gpu_judge.specs.Judge.{Call, have_lengths, verdict}
use Rattle.explain.specs.Reason.{blank_reason}
use Rattle.explain.specs.Explain.{whole_output, explain_number, Explains}
use Rattle.explain.specs.declared.Reason.{Reason}
use Rattle.explain.proofs.Numbers.{draw-number, reason-number, reason_blank}
use Rattle.thm_refusals.specs.Table.{Row, row, NoneOf}
use Rattle.thm_refusals.specs.Demand1.{draw_table, lent_lengths, explain_table}
use Rattle.thm_refusals.proofs.Tables.{first_of, first-after}
use Rattle.thm_refusals.proofs.Draws.{number-draw}

module _ (c : Call) (entries : List ℕ) where
  -- A draw's rows, over what an explanation is lent.
  abbrev lent_table : List Row
  lent_table = draw_table c (lent_lengths c.memory entries) (shaped_row entries)

  -- With a whole output, a draw's lengths are those of what is lent.
  lengths_whole : have_lengths c.memory entries whole_output ≡ lent_lengths c.memory entries
  unfolding have_lengths lent_lengths
  lengths_whole = rw (length-tab {A = ℕ} (λ _. 0) output_size) (and-true _)

  number_whole : outcome_number (verdict c entries whole_output) ≡ first_of lent_table
  number_whole =
      sym (draw-number c entries whole_output)
      ∙ number-draw c entries whole_output
      ∙ ap (λ sized. first_of (draw_table c sized (shaped_row entries))) lengths_whole

  module _ (column : ℕ) where
    abbrev column_row : List Row
    column_row = row 8 (leb display_width column) ∷ []

    first_column : first_of column_row ≡ cond (ltb column display_width) 0 8
    first_column = go (ltb column display_width) refl
      where
        go : (t : Bool) → ltb column display_width ≡ t → first_of column_row ≡ cond t 0 8
        go true t = rw (lt-leb display_width column (ltb-true column display_width t))
        go false t = rw (le-leb display_width column (ltb-false column display_width t))

    module _ {r : Reason} (r-is : Explains c entries column r) where
      pub number-explain : r.number ≡ first_of (explain_table c entries column)
      unfolding explain_number
      number-explain =
          reason-number c entries column r-is
          ∙ rw (number_whole, sym first_column) (sym (first-after 0 lent_table column_row refl))

      pub explain-blank : force_blank (dispcnt c.memory.registers) ≡ true
          → NoneOf 3 (explain_table c entries column) → column < display_width → r ≡ blank_reason
      explain-blank on none inside = reason_blank c entries column r-is (number-explain ∙ first) on
        where
          first : first_of (explain_table c entries column) ≡ 0
          first =
              rw (on, none 0 (omega arith), none 1 (omega arith), none 2 (omega arith), lt-leb display_width column inside)

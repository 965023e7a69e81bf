-- Demand 3 holds of every list of draws. No contract cites this file. Assumes nothing.
use Prim.Native.Nat.{ℕ}
use mathlib.Core.Path.{◌≡◌, ap, ◌∙◌}
use mathlib.Core.Bool.{◌||◌}
use mathlib.Core.List.{List, []}
use lib.ListN.{length}
use Rattle.rows.proofs.Cells.{length_row_of, cell_at_row_of}
use Rattle.obj_entries.specs.Entry.{entry_cells, window_mark, reset_row}
use Rattle.obj.specs.Order.{Pixel, Wins}
use Rattle.obj.proofs.Before.{wins_once}
use Rattle.obj_entries.proofs.Shapes.{shaped_row-reset}
use Rattle.thm_order.specs.Draws.{Attempt, row_after, pixels_put, window_put, Demand3}
use Rattle.thm_order.proofs.Rows.{number_shaped, length_draws, shaped_row_draws}
use Rattle.thm_order.proofs.Columns.{held-reset, held_draws, window_draws}

-- Demand 3: the winner of all pixels put, the window mark, and no refusal for an ill-shaped entry.
pub demand-3 : (draws : List Attempt) → Demand3 draws
demand-3 draws =
    record {
      holds = λ column column<.
          held_draws column column< 0 draws reset_row [] (rw (cell_at_row_of entry_cells _ 240 column column<) held-reset);
      window = λ column column<.
          window_draws column column< draws reset_row
          ∙ ap (λ e. window_mark e || window_put draws reset_row column) (cell_at_row_of entry_cells _ 240 column column<);
      never-7 = λ next. number_shaped next _ (shaped_row_draws draws reset_row shaped_row-reset);
    }

-- The pixels put at a column have one winner.
pub winner_once : (draws : List Attempt) (column : ℕ) (v w : Pixel)
    → Wins (pixels_put 0 draws reset_row column) v → Wins (pixels_put 0 draws reset_row column) w → v ≡ w
winner_once draws column v w = wins_once _ v w

-- A reset row has 960 bytes after any draws.
pub length-after-reset : (draws : List Attempt) → length (row_after draws reset_row) ≡ 960
length-after-reset draws = length_draws draws reset_row (length_row_of entry_cells _ 240)

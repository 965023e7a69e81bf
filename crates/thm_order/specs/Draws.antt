-- Demand 3: a row of entries is reset, and any number of draws are made on it, each with its own reading, memory, registers,
-- line, references and output (01, "Sprites", "Errors that look right", "How tight the contracts are"). Assumes nothing.
use Rattle.std.specs.Prelude.{ℕ, suc, ◌+◌, ◌<◌, ◌≡◌, Bool, false, cond, not, ◌&&◌, ◌||◌, List, [], ◌∷◌, ◌++◌, ◌≢◌, eqb, length}
use Rattle.rows.specs.Cells.{cell_at}
use Rattle.memory.specs.Sizes.{display_width}
use Rattle.regs.specs.Registers.{dispcnt}
use Rattle.regs.specs.Display.{enable_obj, force_blank}
use Rattle.regs.specs.Reading.{reading_of}
use Rattle.obj_sprites.specs.Oam.{obj_count}
use Rattle.obj_entries.specs.Entry.{entry_cells, window_mark, reset_row}
use Rattle.obj.specs.Order.{Draw, Pixel, Holds, pixels_up_to, window_up_to}
use Rattle.gpu_judge.specs.Judge.{Call}
use Rattle.gpu.specs.Draw.{draw}

-- A draw of the list: what it is asked for, and the output that is lent to it.
pub record Attempt : Type 0 where
  pub call : Call
  pub output : List ℕ

-- The row that a draw leaves.
abbrev pub row_left : Attempt → List ℕ → List ℕ
row_left a row = (draw a.call row a.output).entries

-- The number that a draw gives.
abbrev pub number_given : Attempt → List ℕ → ℕ
number_given a row = (draw a.call row a.output).number

-- The row that draws leave, one after another.
unfoldable pub row_after : List Attempt → List ℕ → List ℕ
row_after [] row = row
row_after (a ∷ rest) row = row_after rest (row_left a row)

-- Only accepted draws with sprites on and forced blank off put pixels.
unfoldable pub puts_pixels : Attempt → List ℕ → Bool
puts_pixels a row =
    let control = dispcnt a.call.memory.registers in
    eqb (number_given a row) 0 && enable_obj control && not (force_blank control)

-- The draw as far as its sprites go.
abbrev pub sprites_of : Attempt → Draw
sprites_of a =
    record { reading = reading_of a.call.reading; memory = a.call.memory; line = a.call.line }

-- The pixels that draws put at a column, of every ordinary or semi-transparent sprite drawn on the line with an opaque one
-- there, kept or passed over; the first draw is number i.
unfoldable pub pixels_put : ℕ → List Attempt → List ℕ → ℕ → List Pixel
pixels_put i [] row column = []
pixels_put i (a ∷ rest) row column =
    cond (puts_pixels a row) (pixels_up_to i (sprites_of a) obj_count column) [] ++ pixels_put (suc i) rest (row_left a row) column

-- Whether some draw put an opaque window-sprite pixel at a column.
unfoldable pub window_put : List Attempt → List ℕ → ℕ → Bool
window_put [] row column = false
window_put (a ∷ rest) row column =
    (puts_pixels a row && window_up_to (sprites_of a) obj_count column) || window_put rest (row_left a row) column

-- After draws on a reset row, every column holds the colour, priority and semi-transparent mark of the winner of all pixels
-- put there so far, or the reset values where none was put; its window mark is set exactly if some draw put an opaque
-- window-sprite pixel there; and no draw on the row is refused for an ill-shaped entry.
pub record Demand3 (draws : List Attempt) : Type 0 where
  pub holds : (column : ℕ) → column < display_width
      → Holds (pixels_put 0 draws reset_row column) (cell_at entry_cells (row_after draws reset_row) column)
  pub window : (column : ℕ) → column < display_width
      → window_mark (cell_at entry_cells (row_after draws reset_row) column) ≡ window_put draws reset_row column
  pub never-7 : (next : Attempt) → number_given next (row_after draws reset_row) ≢ 7

-- After each draw: a prefix of a list of draws is a list of draws, so that Demand3 holds after each; and what earlier and
-- later draws leave and put is what the later do on the row that the earlier left, their pixels numbered on.
pub record AfterEach (earlier later : List Attempt) (row : List ℕ) : Type 0 where
  pub row_is : row_after (earlier ++ later) row ≡ row_after later (row_after earlier row)
  pub pixels_are : (i column : ℕ)
      → pixels_put i (earlier ++ later) row column
      ≡ pixels_put i earlier row column ++ pixels_put (i + length earlier) later (row_after earlier row) column
  pub window_is : (column : ℕ)
      → window_put (earlier ++ later) row column
      ≡ (window_put earlier row column || window_put later (row_after earlier row) column)

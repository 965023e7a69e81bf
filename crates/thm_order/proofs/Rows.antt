-- Laws of what one draw, and draws one after another, make of a row. No contract cites this file. Assumes nothing.
use Rattle.refusals.specs.Refusal.{refusal_number, outcome_number}
use Prim.Native.Nat.{ℕ}
use native.Mathlib.Omega.{arith}
use mathlib.Core.Path.{◌≡◌, refl, sym, ap, ◌∙◌}
use mathlib.Core.Bool.{Bool, true, false, cond, not, ◌&&◌, and-true, and-false, true≢false}
use mathlib.Core.List.{List, [], ◌∷◌}
use mathlib.Core.Logic.{◌≢◌}
use lib.Dec.{eqb}
use lib.ListN.{length}
use borrow.Author.Tests.{ne_eqb}
use Rattle.rows.proofs.Cells.{length_row_of}
use Rattle.regs.specs.Registers.{dispcnt}
use Rattle.regs.specs.Display.{enable_obj, force_blank}
use Rattle.regs.specs.Reading.{reading_of}
use Rattle.obj_sprites.specs.Sprite.{source}
use Rattle.obj_entries.specs.Entry.{entry_cells, shaped_row}
use Rattle.obj.specs.Put.{put_sprites}
use Rattle.obj.proofs.Shapes.{shaped_row-after}
use Rattle.gpu.specs.Line.{entries_after}
use Rattle.gpu.specs.Draw.{given, draw}
use Rattle.thm_order.specs.Draws.{Attempt, row_left, number_given, row_after, puts_pixels}
use Rattle.gpu_judge.proofs.Verdicts.{verdict_cases}

-- What a draw's sprites make of a row.
abbrev pub sprite_row : Attempt → List ℕ → List ℕ
sprite_row a row = put_sprites (reading_of a.call.reading) (source a.call.memory) a.call.line row

module _ (a : Attempt) (row : List ℕ) where
  abbrev control : ℕ
  control = dispcnt a.call.memory.registers

  -- A draw that puts pixels leaves what its sprites make of the row, and any other the row as it is.
  pub row_left_is : row_left a row ≡ cond (puts_pixels a row) (sprite_row a row) row
  unfolding puts_pixels draw given outcome_number refusal_number entries_after
  row_left_is =
      verdict_cases a.call row a.output
      (λ v.
      let after = given v a.call row a.output in
      after.entries
      ≡ cond (eqb after.number 0 && enable_obj control && not (force_blank control)) (sprite_row a row) row)
      refl refl refl
      (λ blank _. rw (blank, and-false (enable_obj control)))
      refl refl refl
      (λ _. refl)
      (λ lit _. rw (lit, and-true (enable_obj control)))

  -- A draw that puts no pixels leaves the row as it is.
  pub idle-draw : puts_pixels a row ≡ false → row_left a row ≡ row
  idle-draw idle = row_left_is ∙ ap (λ t. cond t (sprite_row a row) row) idle

  -- A refused draw puts no pixels.
  pub idle-refused : number_given a row ≢ 0 → puts_pixels a row ≡ false
  unfolding puts_pixels
  idle-refused refused = rw (ne_eqb (number_given a row) 0 refused)

  -- A draw with sprites off puts no pixels.
  pub idle_off : enable_obj control ≡ false → puts_pixels a row ≡ false
  unfolding puts_pixels
  idle_off off = rw (off, and-false (eqb (number_given a row) 0))

  -- A draw with forced blank on puts no pixels.
  pub idle-blank : force_blank control ≡ true → puts_pixels a row ≡ false
  unfolding puts_pixels
  idle-blank blank = rw blank (and-false (eqb (number_given a row) 0 && enable_obj control))

  -- A draw on a row of well-shaped entries isn't refused for one.
  pub number_shaped : shaped_row row ≡ true → number_given a row ≢ 7
  unfolding draw given outcome_number refusal_number
  number_shaped shaped =
      verdict_cases a.call row a.output (λ v. (given v a.call row a.output).number ≢ 7)
      (λ e. omega arith) (λ e. omega arith) (λ e. omega arith) (λ _ _ e. omega arith)
      (λ e. omega arith) (λ e. omega arith) (λ e. omega arith)
      (λ ill e. true≢false (sym shaped ∙ ill))
      (λ _ _ e. omega arith)

  -- What holds of the row, and of what the sprites make of it, holds of the row that the draw leaves.
  row_left_cases : (P : List ℕ → Type 0) → P (sprite_row a row) → P row → P (row_left a row)
  row_left_cases P drawn same = rw row_left_is (go (puts_pixels a row))
    where
      go : (t : Bool) → P (cond t (sprite_row a row) row)
      go true = drawn
      go false = same

  length-draw : length row ≡ 960 → length (row_left a row) ≡ 960
  length-draw size = row_left_cases (λ l. length l ≡ 960) (length_row_of entry_cells _ 240) size

  shaped_row-draw : shaped_row row ≡ true → shaped_row (row_left a row) ≡ true
  shaped_row-draw shaped = row_left_cases (λ l. shaped_row l ≡ true) (shaped_row-after _ _ _ row shaped) shaped

-- A row keeps its 960 bytes.
pub length_draws : (draws : List Attempt) (row : List ℕ) → length row ≡ 960 → length (row_after draws row) ≡ 960
unfolding row_after
length_draws [] row size = size
length_draws (a ∷ rest) row size = length_draws rest _ (length-draw a row size)

-- A row's entries stay well shaped.
pub shaped_row_draws : (draws : List Attempt) (row : List ℕ) → shaped_row row ≡ true → shaped_row (row_after draws row) ≡ true
unfolding row_after
shaped_row_draws [] row shaped = shaped
shaped_row_draws (a ∷ rest) row shaped = shaped_row_draws rest _ (shaped_row-draw a row shaped)

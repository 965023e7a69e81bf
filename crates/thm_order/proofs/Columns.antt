-- Laws of what draws, one after another, make of the entry of a column. No contract cites this file. Assumes nothing.
use Prim.Native.Nat.{ℕ, suc, ◌<◌}
use native.Mathlib.Omega.{arith}
use mathlib.Core.Path.{◌≡◌, refl, sym, ap, ◌∙◌}
use mathlib.Core.Bool.{Bool, true, false, cond, ◌&&◌, ◌||◌, or-false, or_assoc}
use mathlib.Core.List.Memᴰ
use mathlib.Core.List.{List, [], ◌∷◌, ◌++◌, append-nil, append_assoc}
use mathlib.Core.Logic.{inl, ⊎_elim}
use Rattle.rows.specs.Cells.{cell_at}
use Rattle.rows.proofs.Cells.{cell_at_row_of}
use Rattle.obj_entries.specs.Entry.{entry_cells, window_mark, reset_entry}
use Rattle.obj.specs.Order.{Pixel, Holds, none, pixels_up_to, window_up_to}
use Rattle.obj_entries.specs.declared.Entry.{Entry}
use Rattle.obj.proofs.Order.{Held, held_sprites}
use Rattle.obj.proofs.Windows.{window_mark_sprites}
use Rattle.thm_order.specs.Draws.{Attempt, row_left, row_after, puts_pixels, sprites_of, pixels_put, window_put}
use Rattle.thm_order.proofs.Rows.{sprite_row, row_left_is}

-- What was put before sprite n of a draw was put before the next draw.
held_later : (i n : ℕ) (ps : List Pixel) (e : Entry) → Held i n ps e → Held (suc i) 0 ps e
held_later i n ps e held =
    record {
      holds = held.holds;
      earlier = λ p m. ⊎_elim (λ h. inl (omega arith)) (λ h. inl (omega (arith, h.0))) (held.earlier p m);
    }

-- Before the first draw nothing was put, and the entry is the reset entry.
pub held-reset : Held 0 0 [] reset_entry
held-reset =
    record {
      holds = none refl (record { color_is = refl; priority_is = refl; semi_is = refl });
      earlier = λ p m. absurd (Memᴰ.not-nil m);
    }

module _ (column : ℕ) (column< : column < 240) where
  abbrev entry_at : List ℕ → Entry
  entry_at row = cell_at entry_cells row column

  -- Of what was put so far, and of what a draw puts, the entry that it leaves holds the winner.
  held-draw : (i : ℕ) (a : Attempt) (row : List ℕ) (ps : List Pixel) → Held i 0 ps (entry_at row)
      → Held (suc i) 0 (ps ++ cond (puts_pixels a row) (pixels_up_to i (sprites_of a) 128 column) []) (entry_at (row_left a row))
  held-draw i a row ps held = rw (row_left_is a row) (go (puts_pixels a row))
    where
      go : (t : Bool)
          → Held (suc i) 0 (ps ++ cond t (pixels_up_to i (sprites_of a) 128 column) []) (entry_at (cond t (sprite_row a row) row))
      go true =
          rw (cell_at_row_of entry_cells _ 240 column column<)
          (held_later i 128 _ _ (held_sprites column i (sprites_of a) 128 ps _ held))
      go false = rw (append-nil ps) (held_later i 0 ps _ held)

  -- Of what was put so far, and of what draws from number i on put, the entry that they leave holds the winner.
  pub held_draws : (i : ℕ) (draws : List Attempt) (row : List ℕ) (ps : List Pixel) → Held i 0 ps (entry_at row)
      → Holds (ps ++ pixels_put i draws row column) (entry_at (row_after draws row))
  unfolding pixels_put row_after
  held_draws i [] row ps held = rw (append-nil ps) held.holds
  held_draws i (a ∷ rest) row ps held =
      rw (← append_assoc) (held_draws (suc i) rest (row_left a row) _ (held-draw i a row ps held))

  -- A draw sets the window mark where it puts an opaque window-sprite pixel, and else leaves it.
  window-draw : (a : Attempt) (row : List ℕ)
      → window_mark (entry_at (row_left a row))
      ≡ (window_mark (entry_at row) || (puts_pixels a row && window_up_to (sprites_of a) 128 column))
  window-draw a row = ap (λ l. window_mark (entry_at l)) (row_left_is a row) ∙ go (puts_pixels a row)
    where
      go : (t : Bool) → window_mark (entry_at (cond t (sprite_row a row) row))
          ≡ (window_mark (entry_at row) || (t && window_up_to (sprites_of a) 128 column))
      go true =
          ap window_mark (cell_at_row_of entry_cells _ 240 column column<)
          ∙ window_mark_sprites column (sprites_of a) 128 (entry_at row)
      go false = sym (or-false (window_mark (entry_at row)))

  -- The mark stays set, and is set exactly if some draw puts an opaque window-sprite pixel there.
  pub window_draws : (draws : List Attempt) (row : List ℕ)
      → window_mark (entry_at (row_after draws row)) ≡ (window_mark (entry_at row) || window_put draws row column)
  unfolding window_put row_after
  window_draws [] row = sym (or-false (window_mark (entry_at row)))
  window_draws (a ∷ rest) row =
      window_draws rest (row_left a row)
      ∙ ap (λ t. t || window_put rest (row_left a row) column) (window-draw a row)
      ∙ or_assoc (window_mark (entry_at row)) _ _

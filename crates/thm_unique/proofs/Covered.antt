-- The entry of column 0 after draws of `covered p`. No contract cites this file. Assumes nothing.
use Prim.Native.Nat.{ℕ, ◌≤◌}
use native.Mathlib.Omega.{arith}
use mathlib.Core.Path.{◌≡◌, ap}
use mathlib.Core.Bool.{true, cond, ◌&&◌}
use mathlib.Core.List.{List, [], ◌∷◌, append-nil}
use mathlib.Core.List.Memᴰ
use mathlib.Core.List.{Memᴰ}
use Rattle.rows.specs.Cells.{cell_at}
use Rattle.memory.specs.Sizes.{registers_size}
use Rattle.regs.specs.Registers.{DISPCNT}
use Rattle.obj_entries.specs.Entry.{entry_cells, reset_row}
use Rattle.obj_sprites.specs.Attrs.{sprite}
use Rattle.obj_sprites.specs.Sprite.{is_visible}
use Rattle.obj.specs.Order.{Pixel, is_opaque, pixel_of, pixels_up_to}
use Rattle.obj_sprites.specs.declared.attrs.ObjAttrs.{ObjAttrs}
use Rattle.obj_entries.proofs.Shapes.{shaped_row-reset}
use Rattle.thm_order.specs.Draws.{Attempt, row_left, row_after, puts_pixels, sprites_of, pixels_put}
use Rattle.thm_order.proofs.Rows.{shaped_row_draws}
use Rattle.thm_order.proofs.Demand3.{demand-3, length-after-reset}
use Rattle.thm_unique.specs.Inputs.{covered, corner_sprites, lent}
use Rattle.thm_unique.proofs.Once.{draw_some}
use Rattle.thm_unique.proofs.Accepted.{half-tab, given_accepted, Lendable, lendable-reset, accepted-covered}
use Rattle.thm_unique.proofs.Winners.{holds-le, holds_same, first_among, priorities}
use Rattle.thm_unique.proofs.Corner.{sprite_corner, color_corner}

-- A draw of `covered p`.
abbrev pub cover : ℕ → Attempt
cover p = record { call = covered p; output = lent }

-- The pixels that such a draw puts at column 0 of a row, as draw number i.
abbrev pixels_of : ℕ → ℕ → List ℕ → List Pixel
pixels_of p i row = cond (puts_pixels (cover p) row) (pixels_up_to i (sprites_of (cover p)) 128 0) []

-- The priority in column 0.
abbrev pub priority_in : List ℕ → ℕ
priority_in row = (cell_at entry_cells row 0).priority

module _ (p : ℕ) (p≤ : p ≤ 3) where
  -- A draw puts its pixels.
  puts : (row : List ℕ) → Lendable row lent → puts_pixels (cover p) row ≡ true
  unfolding puts_pixels
  puts row l =
      let number_is =
      (given_accepted (covered p) row lent (accepted-covered row lent l p) (draw_some (covered p) row lent)).0 in
      rw (number_is, half-tab _ registers_size DISPCNT (omega arith))

  -- Its first sprite has one at column 0.
  first_put : (is_visible (sprite (corner_sprites p) 0).objmode && is_opaque (sprites_of (cover p)) 0 0) ≡ true
  unfolding is_opaque is_visible
  first_put = rw (color_corner p p≤, sprite_corner p p≤ 0 (omega arith))

  -- That pixel is among those that it puts there.
  pixel_among : (i : ℕ) → Memᴰ (pixel_of i (sprites_of (cover p)) 0 0) (pixels_up_to i (sprites_of (cover p)) 128 0)
  pixel_among i = first_among i (sprites_of (cover p)) 0 127 first_put

  pixel_put : (i : ℕ) (row : List ℕ) → Lendable row lent
      → Memᴰ (pixel_of i (sprites_of (cover p)) 0 0) (pixels_of p i row)
  pixel_put i row l = rw (puts row l) (pixel_among i)

  -- On the reset row it leaves priority p.
  pub priority-covered : priority_in (row_left (cover p) reset_row) ≡ p
  unfolding row_after pixels_put
  priority-covered =
      let holds = (demand-3 (cover p ∷ [])).holds 0 (omega arith) in
      holds_same (rw (puts reset_row lendable-reset, append-nil (pixels_up_to 0 (sprites_of (cover p)) 128 0)) at holds)
      (priorities 0 (sprites_of (cover p)) 0 p 128 (λ k k<. ap (λ (s : ObjAttrs). s.priority) (sprite_corner p p≤ k k<)))
      _ (pixel_among 0)

-- The row that a draw leaves of the reset row can be lent again.
lendable-covered : (p : ℕ) → Lendable (row_left (cover p) reset_row) lent
unfolding row_after
lendable-covered p =
    record {
      entries_is = length-after-reset (cover p ∷ []);
      output_is = lendable-reset.output_is;
      shaped = shaped_row_draws (cover p ∷ []) reset_row shaped_row-reset;
    }

-- A second draw leaves at most its own priority.
pub priority_second : (p q : ℕ) → q ≤ 3 → priority_in (row_left (cover q) (row_left (cover p) reset_row)) ≤ q
unfolding row_after pixels_put pixel_of
priority_second p q q≤ =
    let among = pixel_put q q≤ 1 (row_left (cover p) reset_row) (lendable-covered p) in
    let least =
    holds-le ((demand-3 (cover p ∷ cover q ∷ [])).holds 0 (omega arith)) _
    (Memᴰ.append_right (pixels_of p 0 reset_row) (Memᴰ.append_left [] among)) in
    omega (arith, ap (λ (s : ObjAttrs). s.priority) (sprite_corner q q≤ 0 (omega arith)))
